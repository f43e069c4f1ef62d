-- Laws of a test of each element, made by the elements' numbers.
use Rattle.std.specs.Prelude.{◌≡◌, refl, Bool, true, false, ◌&&◌, List, [], ◌∷◌, ℕ, zero, suc, ◌+◌, ◌-◌, ◌≤◌, ◌<◌, min, length, take, drop, get_or}
use Rattle.std.specs.List.{list_all, range_with_len}
use Rattle.std.proofs.Common.{sym, ap, ◌∙◌, arith, zero-add, suc-add, length-take, get_or-take, drop_of_length-le}
use Rattle.std.proofs.Math.Seq.{take-nil, drop-nil}
use Rattle.spec_lists.specs.Select.{all}
use Rattle.spec_rule.proofs.laws.Walk.{list_on, list_end}

module _ {A : Type 0} (p : A → Bool) (d : A) (xs : List A) where
  -- from the k-th on, up to the m-th
  pub all_below :
      (m k n : ℕ) → min m (length xs) - k ≡ n → list_all (λ i. p (get_or xs i d)) (range_with_len k n) ≡ all p (drop k (take m xs))
  all_below m k zero e = sym (ap (all p) (list_end (take m xs) k (omega (arith, length-take m xs))))
  all_below m k (suc n) e =
      ap (λ (t : Bool). p (get_or xs k d) && t) (all_below m (k + 1) n (omega arith))
      ∙ ap (λ (x : A). p x && all p (drop (k + 1) (take m xs))) (sym (get_or-take m xs k d (omega arith)))
      ∙ sym (ap (all p) (list_on (take m xs) d k (omega (arith, length-take m xs))))

  -- all of them
  pub all_numbered : (k n : ℕ) → length xs - k ≡ n → list_all (λ i. p (get_or xs i d)) (range_with_len k n) ≡ all p (drop k xs)
  all_numbered k zero e = sym (ap (all p) (list_end xs k (omega arith)))
  all_numbered k (suc n) e =
      ap (λ (t : Bool). p (get_or xs k d) && t) (all_numbered (k + 1) n (omega arith)) ∙ sym (ap (all p) (list_on xs d k (omega arith)))

module _ {A : Type 0} (p : A → Bool) (d : A) (xs : List A) (i : ℕ) where
  at : i < length xs → all p (drop i xs) ≡ p (get_or xs i d) && all p (drop (i + 1) xs)
  at h = ap (all p) (list_on xs d i h)

  -- the i-th passes, so the rest decides; it fails; nothing is left
  pub all_on : i < length xs → p (get_or xs i d) ≡ true → all p (drop i xs) ≡ all p (drop (i + 1) xs)
  all_on h e = at h ∙ rw e

  pub all_off : i < length xs → p (get_or xs i d) ≡ false → all p (drop i xs) ≡ false
  all_off h e = at h ∙ rw e

  pub all_end : length xs ≤ i → all p (drop i xs) ≡ true
  all_end h = rw (drop_of_length-le xs h)

-- a part is what is left of the front
pub part_front : {A : Type 0} (c f : ℕ) (xs : List A) → take c (drop f xs) ≡ drop f (take (f + c) xs)
part_front c zero xs = rw (zero-add c)
part_front c (suc f) [] = rw (take-nil c, take-nil (suc f + c), drop-nil (suc f))
part_front c (suc f) (x ∷ xs) = rw (suc-add f c) (part_front c f xs)
