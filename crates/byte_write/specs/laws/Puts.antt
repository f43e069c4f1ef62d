-- Writings one behind the other, and byte by byte.
use Rattle.std.specs.Prelude.{List, [], ◌∷◌, ◌++◌, map, ◌≡◌, refl, ℕ, zero, suc, ◌+◌, ◌≤◌, ◌<◌, length, set, take, get_or}
use Rattle.std.proofs.Common.{sym, ap, ◌∙◌, add-zero, add-suc, suc-add, add_assoc, add-one, arith, length-append, take-suc}
use Rattle.std.proofs.lemmas.List.Edits.{sets}
use Rattle.std.proofs.Math.Seq.{length-sets, set_out}
use Rattle.spec_lists.proofs.laws.Joined.{map_append}
use Rattle.spec_lists.specs.Words.{word_bytes, spelled_out}
use Rattle.byte_write.specs.Put.{Put}

module _ {A : Type 0} where
  pub sets_sets : (ws vs b : List A) (at : ℕ) → sets (sets b at ws) (at + length ws) vs ≡ sets b at (ws ++ vs)
  sets_sets [] vs b at = rw (add-zero at)
  sets_sets (w ∷ ws) vs b at = rw (add-suc at (length ws), ← suc-add at (length ws)) (sets_sets ws vs (set b at w) (suc at))

  -- writing at two places, in either order
  set_swap : (l : List A) (i j : ℕ) (a b : A) → i < j → set (set l j b) i a ≡ set (set l i a) j b
  set_swap [] i j a b h = refl
  set_swap (x ∷ xs) zero zero a b h = absurd (omega arith)
  set_swap (x ∷ xs) zero (suc j) a b h = refl
  set_swap (x ∷ xs) (suc i) zero a b h = absurd (omega arith)
  set_swap (x ∷ xs) (suc i) (suc j) a b h = ap (λ (r : List A). x ∷ r) (set_swap xs i j a b (omega arith))

  set_sets : (vs b : List A) (i k : ℕ) (w : A) → i < k → set (sets b k vs) i w ≡ sets (set b i w) k vs
  set_sets [] b i k w h = refl
  set_sets (v ∷ vs) b i k w h = set_sets vs (set b k v) i (suc k) w (omega arith) ∙ ap (λ (l : List A). sets l (suc k) vs) (set_swap b i k w v h)

  -- what stands behind may be written first
  pub sets_before : (ws vs b : List A) (at : ℕ) → sets (sets b (at + length ws) vs) at ws ≡ sets b at (ws ++ vs)
  sets_before [] vs b at = rw (add-zero at)
  sets_before (w ∷ ws) vs b at =
      rw (add-suc at (length ws), ← suc-add at (length ws))
      (ap (λ (l : List A). sets l (suc at) ws) (set_sets vs b at (suc at + length ws) w (omega arith)) ∙ sets_before ws vs (set b at w) (suc at))

-- one writing behind another
pub put_put : {b c d : List ℕ} {at r t : ℕ} {ws vs : List ℕ} → Put b c at ws r → Put c d r vs t → Put b d at (ws ++ vs) t
put_put {b} {c} {d} {at} {r} {t} {ws} {vs} p q =
    record {
      bytes = q.bytes ∙ ap (λ (l : List ℕ). sets l r vs) p.bytes ∙ ap (λ (k : ℕ). sets (sets b at ws) k vs) p.end ∙ sets_sets ws vs b at;
      end = q.end ∙ ap (λ (k : ℕ). k + length vs) p.end ∙ add_assoc at (length ws) (length vs) ∙ ap (λ (k : ℕ). at + k) (sym (length-append ws vs));
    }

-- and one before another that stands already
pub put_before : {b c d : List ℕ} {at r t : ℕ} {ws vs : List ℕ} → Put b c r vs t → Put c d at ws r → Put b d at (ws ++ vs) t
put_before {b} {c} {d} {at} {r} {t} {ws} {vs} p q =
    record {
      bytes = q.bytes ∙ ap (λ (l : List ℕ). sets l at ws) (p.bytes ∙ ap (λ (k : ℕ). sets b k vs) q.end) ∙ sets_before ws vs b at;
      end = p.end ∙ ap (λ (k : ℕ). k + length vs) q.end ∙ add_assoc at (length ws) (length vs) ∙ ap (λ (k : ℕ). at + k) (sym (length-append ws vs));
    }

pub put_none : (b : List ℕ) (at : ℕ) → Put b b at [] at
put_none b at = record { bytes = refl; end = sym (add-zero at) }

pub put_length : {b c : List ℕ} {at r : ℕ} {bs : List ℕ} → Put b c at bs r → length c ≡ length b
put_length {b} {at = at} {bs = bs} p = ap length p.bytes ∙ length-sets b at bs

pub put_as : {b c : List ℕ} {at r t : ℕ} {bs es : List ℕ} → Put b c at bs t → bs ≡ es → r ≡ t → Put b c at es r
put_as {b} {at = at} d e g = record { bytes = d.bytes ∙ ap (sets b at) e; end = g ∙ d.end ∙ ap (λ (l : List ℕ). at + length l) e }

-- ---- one byte, inside and past the end

pub put_one : (b : List ℕ) (at v : ℕ) → Put b (set b at v) at (v ∷ []) (at + 1)
put_one b at v = record { bytes = refl; end = refl }

pub put_past : (b : List ℕ) (at v : ℕ) → length b ≤ at → Put b b at (v ∷ []) (at + 1)
put_past b at v h = record { bytes = sym (set_out b at v h); end = refl }

-- ---- a text byte by byte

pub text_turn :
    (f : ℕ → ℕ) {b c d : List ℕ} (t : List ℕ) (at i : ℕ) {next r : ℕ} → i < length t
    → Put b c at (map f (take i t)) next → Put c d next (f (get_or t i 0) ∷ []) r → Put b d at (map f (take (i + 1) t)) r
text_turn f t at i l p q =
    rw (add-one i, take-suc t i 0 l, map_append f (take i t) (get_or t i 0 ∷ [])) (put_put p q)

-- ---- and words one by one

pub spelled_append : (ws vs : List ℕ) → spelled_out (ws ++ vs) ≡ spelled_out ws ++ spelled_out vs
spelled_append [] vs = refl
spelled_append (w ∷ ws) vs = ap (λ (l : List ℕ). word_bytes w ++ l) (spelled_append ws vs)

pub words_turn :
    {b c d : List ℕ} (ws : List ℕ) (at i : ℕ) {next r : ℕ} → i < length ws
    → Put b c at (spelled_out (take i ws)) next → Put c d next (word_bytes (get_or ws i 0)) r → Put b d at (spelled_out (take (i + 1) ws)) r
words_turn ws at i l p q =
    rw (add-one i, take-suc ws i 0 l, spelled_append (take i ws) (get_or ws i 0 ∷ [])) (put_put p q)
