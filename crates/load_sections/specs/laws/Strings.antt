-- Strings depend neither on the cursor nor on names, so that they may be written one behind the other from any.
use Rattle.std.specs.Prelude.{List, ◌++◌, [], ◌≡◌, refl, ℕ}
use Rattle.std.proofs.Common.{ap₂, ap}
use Rattle.spec_grammar.specs.declared.Role.{Role}
use Rattle.spec_grammar.specs.declared.Role.TheVariants.{RuleWord, UagNamed, HagNamed, UagName, User, HagName, Host, AsgName, Input, Pvname, Calculation}
use Rattle.spec_grammar.specs.Sentence.{Tagged}
use Rattle.byte_write.specs.Put.{Put}
use Rattle.byte_write.specs.laws.Puts.{put_as, put_put}
use Rattle.load_flags.specs.Tokens.{cut}
use Rattle.load_records.specs.declared.Cursor.{Cursor}
use Rattle.load_records.specs.Work.{Work}
use Rattle.load_records.specs.Work.{Texts, Lowered, Firsts}
use Rattle.load_records.specs.Cursor.{Emitted}
use Rattle.load_records.specs.Record.{emit, move}
use Rattle.load_passes.specs.Pass.{emits, moves, refer_emits, refer_moves, rule_emits, rule_moves}
use Rattle.load_passes.specs.laws.Each.{each_same}
use Rattle.load_passes.specs.laws.Loops.{pass_put, references_put}
use Rattle.load_sections.specs.Sections.{from}
use Rattle.load_sections.specs.Strings.{access_strings, group_strings, zero_cursor}

pub data StringWork : Work → Type 0 where
  of_texts : StringWork Texts
  of_lowered : StringWork Lowered
  of_firsts : StringWork Firsts

module _ (q m : Role) (names others : List (List ℕ)) where
  emit_same : {w : Work} → StringWork w → (x : Tagged) (xs : List Tagged) (p t : Cursor) → emit q m names w x xs p ≡ emit q m others w x xs t
  emit_same of_texts x xs p t = refl
  emit_same of_lowered x xs p t = refl
  emit_same of_firsts x xs p t = refl

  pub emits_same : {w : Work} → StringWork w → (xs : List Tagged) (p t : Cursor) → emits q m names w xs p ≡ emits q m others w xs t
  emits_same {w} c = each_same q (emit q m names w) (emit q m others w) (move q m names w) (move q m others w) (emit_same c)

pub refer_emits_same : (us hs us' hs' : List (List ℕ)) (xs : List Tagged) (p t : Cursor) → refer_emits Texts us hs xs p ≡ refer_emits Texts us' hs' xs t
refer_emits_same us hs us' hs' =
    each_same
    RuleWord
    (λ x ys c. rule_emits Texts us hs (cut RuleWord ys) c)
    (λ x ys c. rule_emits Texts us' hs' (cut RuleWord ys) c)
    (λ x ys c. rule_moves Texts us hs (cut RuleWord ys) c)
    (λ x ys c. rule_moves Texts us' hs' (cut RuleWord ys) c)
    (λ x xs p t.
    let ys = cut RuleWord xs in
    ap₂
    (λ (a b : List ℕ). a ++ b)
    (emits_same UagNamed UagNamed us us' of_texts ys p t)
    (emits_same HagNamed HagNamed hs hs' of_texts ys (moves UagNamed UagNamed us Texts ys p) (moves UagNamed UagNamed us' Texts ys t)))

string_put :
    (q m : Role) {w : Work} {b c : List ℕ} {p r : Cursor} (xs ys : List Tagged) → StringWork w → ys ≡ xs
    → Emitted b c p (emits q m [] w ys p) (moves q m [] w ys p) r → Put b c p.at (emits q m [] w xs zero_cursor) r.at
string_put q m {w} {p = p} xs ys h e d =
    let z = rw e at d in
    put_as (pass_put q m [] w xs refl z).0 (emits_same q m [] [] h xs p zero_cursor) (ap (λ (t : Cursor). t.at) z.moved)

refer_put :
    (us hs : List (List ℕ)) {b c : List ℕ} {p r : Cursor} (xs ys : List Tagged) → ys ≡ xs
    → Emitted b c p (refer_emits Texts us hs ys p) (refer_moves Texts us hs ys p) r → Put b c p.at (refer_emits Texts [] [] xs zero_cursor) r.at
refer_put us hs {p = p} xs ys e d =
    let z = rw e at d in
    put_as (references_put Texts us hs xs refl z).0 (refer_emits_same us hs [] [] xs p zero_cursor) (ap (λ (t : Cursor). t.at) z.moved)

module _ (xs : List Tagged) where
  pub group_strings_put :
      {b c d e f : List ℕ} {p g h i j : Cursor} (ys zs : List Tagged) → ys ≡ from UagName xs → zs ≡ from HagName xs
      → Emitted b c p (emits UagName UagName [] Texts xs p) (moves UagName UagName [] Texts xs p) g
      → Emitted c d g (emits HagName HagName [] Texts xs g) (moves HagName HagName [] Texts xs g) h
      → Emitted d e h (emits User User [] Texts ys h) (moves User User [] Texts ys h) i
      → Emitted e f i (emits Host Host [] Lowered zs i) (moves Host Host [] Lowered zs i) j
      → Put b f p.at (group_strings xs) j.at
  group_strings_put ys zs e₁ e₂ d₁ d₂ d₃ d₄ =
      put_put (string_put UagName UagName xs xs of_texts refl d₁)
      (put_put (string_put HagName HagName xs xs of_texts refl d₂)
      (put_put (string_put User User (from UagName xs) ys of_texts e₁ d₃)
      (string_put Host Host (from HagName xs) zs of_lowered e₂ d₄)))

  pub access_strings_put :
      (us hs : List (List ℕ)) {b c d e f : List ℕ} {p g h i j : Cursor} (ys : List Tagged) → ys ≡ from AsgName xs
      → Emitted b c p (emits AsgName AsgName [] Texts xs p) (moves AsgName AsgName [] Texts xs p) g
      → Emitted c d g (emits Input Pvname [] Firsts ys g) (moves Input Pvname [] Firsts ys g) h
      → Emitted d e h (refer_emits Texts us hs ys h) (refer_moves Texts us hs ys h) i
      → Emitted e f i (emits RuleWord Calculation [] Firsts ys i) (moves RuleWord Calculation [] Firsts ys i) j
      → Put b f p.at (access_strings xs) j.at
  access_strings_put us hs ys e₁ d₁ d₂ d₃ d₄ =
      put_put (string_put AsgName AsgName xs xs of_texts refl d₁)
      (put_put (string_put Input Pvname (from AsgName xs) ys of_firsts e₁ d₂)
      (put_put (refer_put us hs (from AsgName xs) ys e₁ d₃)
      (string_put RuleWord Calculation (from AsgName xs) ys of_firsts e₁ d₄)))
