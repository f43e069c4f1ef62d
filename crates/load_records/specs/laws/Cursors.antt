-- Cursors with the same numbers, and a writing seen as one at a cursor.
use Rattle.std.specs.Prelude.{List, ◌≡◌, ℕ, ◌+◌, length}
use Rattle.std.proofs.Common.{◌∙◌, ap, subst}
use Rattle.std.proofs.lemmas.List.Edits.{sets}
use Rattle.byte_write.specs.Put.{Put}
use Rattle.load_records.specs.declared.Cursor.{Cursor}
use Rattle.load_records.specs.Cursor.{Emitted, cursor}

cursors : {a b c d e f g h : ℕ} → a ≡ e → b ≡ f → c ≡ g → d ≡ h → cursor a b c d ≡ cursor e f g h
cursors i j k l = cc

pub same_cursor : {p t : Cursor} → p.at ≡ t.at → p.string ≡ t.string → p.first ≡ t.first → p.second ≡ t.second → p ≡ t
same_cursor {p} {t} a o f s = cursors a o f s

pub emitted :
    {b c : List ℕ} {p : Cursor} {bs es : List ℕ} {end o f s o' f' s' : ℕ} → Put b c p.at bs end → bs ≡ es → o ≡ o' → f ≡ f' → s ≡ s'
    → Emitted b c p es (cursor (p.at + length es) o' f' s') (cursor end o f s)
emitted {b} {p = p} d e g h k =
    record { bytes = d.bytes ∙ ap (sets b p.at) e; moved = same_cursor (d.end ∙ ap (λ (l : List ℕ). p.at + length l) e) g h k }

pub emitted_text :
    {b c : List ℕ} {p r : Cursor} {o f s : ℕ} {t u : List ℕ} → t ≡ u → Emitted b c p t (cursor (p.at + length t) o f s) r
    → Emitted b c p u (cursor (p.at + length u) o f s) r
emitted_text {b} {c} {p} {r} {o} {f} {s} e d = subst (λ (l : List ℕ). Emitted b c p l (cursor (p.at + length l) o f s) r) e d
