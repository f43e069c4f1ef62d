-- A list searched by the numbers of its elements: what all and any over a range of numbers come to.
use Rattle.std.specs.Prelude.{◌≡◌, refl, Bool, ◌&&◌, ◌||◌, List, [], ◌∷◌, map, ℕ, zero, suc, ◌+◌, ◌-◌, ◌≤◌, ◌<◌, length, take, drop, get_or}
use Rattle.std.specs.List.{list_all, list_any, range_with_len}
use Rattle.std.proofs.Common.{sym, ap, ◌∙◌, arith}
use Rattle.spec_lists.specs.Select.{all, any}
use Rattle.spec_lists.specs.Runs.{part}
use Rattle.spec_rule.proofs.laws.Walk.{list_on, list_end, mapped_on, mapped_end}
use Rattle.spec_text.specs.Faults.{repeated}

module _ {A B : Type 0} (f : A → B) (xs : List A) (d : A) where
  on : (k : ℕ) → k < length xs → drop k (map f xs) ≡ f (get_or xs k d) ∷ drop (k + 1) (map f xs)
  on k l = mapped_on f xs k (list_on xs d k l)

  end : (k : ℕ) → length xs - k ≡ 0 → drop k (map f xs) ≡ []
  end k e = mapped_end f xs k (list_end xs k (omega arith))

  module _ (p : B → Bool) where
    pub all_numbered : (k n : ℕ) → length xs - k ≡ n → list_all (λ i. p (f (get_or xs i d))) (range_with_len k n) ≡ all p (drop k (map f xs))
    all_numbered k zero e = sym (ap (all p) (end k e))
    all_numbered k (suc n) e =
        ap (λ (t : Bool). p (f (get_or xs k d)) && t) (all_numbered (k + 1) n (omega arith)) ∙ sym (ap (all p) (on k (omega arith)))

    pub any_numbered : (k n : ℕ) → length xs - k ≡ n → list_any (λ i. p (f (get_or xs i d))) (range_with_len k n) ≡ any p (drop k (map f xs))
    any_numbered k zero e = sym (ap (any p) (end k e))
    any_numbered k (suc n) e =
        ap (λ (t : Bool). p (f (get_or xs k d)) || t) (any_numbered (k + 1) n (omega arith)) ∙ sym (ap (any p) (on k (omega arith)))

    -- the numbers of a run
    pub any_in_run :
        (k n : ℕ) → ((n ≡ 0 → ⊥) → k + n ≤ length xs)
        → list_any (λ i. p (f (get_or xs i d))) (range_with_len k n) ≡ any p (map f (part (record { first = k; count = n }) xs))
    any_in_run k zero h = refl
    any_in_run k (suc n) h =
        let l : k + suc n ≤ length xs = h (λ z. absurd (omega arith)) in
        ap (λ (t : Bool). p (f (get_or xs k d)) || t) (any_in_run (k + 1) n (λ _. omega arith))
        ∙ sym (ap (λ (ys : List A). any p (map f (take (suc n) ys))) (list_on xs d k (omega arith)))

  -- one of the elements stands again behind it
  pub repeated_numbered :
      (e : B → B → Bool) (k n : ℕ) → length xs - k ≡ n
      → list_any (λ i. any (e (f (get_or xs i d))) (drop (i + 1) (map f xs))) (range_with_len k n) ≡ repeated e (drop k (map f xs))
  repeated_numbered e k zero z = sym (ap (repeated e) (end k z))
  repeated_numbered e k (suc n) z =
      ap (λ (t : Bool). any (e (f (get_or xs k d))) (drop (k + 1) (map f xs)) || t) (repeated_numbered e (k + 1) n (omega arith))
      ∙ sym (ap (repeated e) (on k (omega arith)))
