-- A search in a run of records by their numbers.
use Rattle.std.specs.Prelude.{◌≡◌, Bool, true, false, List, map, ℕ, ◌+◌, ◌-◌, ◌≤◌, ◌<◌, length, drop, get_or}
use Rattle.std.proofs.Common.{refl, ap, ◌∙◌, arith}
use Rattle.spec_lists.specs.Select.{any}
use Rattle.spec_lists.specs.Runs.{Run, part}
use Rattle.spec_rule.proofs.laws.Walk.{any_turn, any_hit, any_done}

module _ {A B : Type 0} (p : B → Bool) (f : A → B) (r : Run) (xs : List A) where
  -- none before the i-th is one
  pub record Searched (i : ℕ) : Type 0 where
    pub rest : any p (map f (part r xs)) ≡ any p (drop (i - r.first) (map f (part r xs)))

  pub none_searched : Searched r.first
  none_searched = record { rest = let z : 0 ≡ r.first - r.first = omega arith in ap (λ (k : ℕ). any p (drop k (map f (part r xs)))) z }

  module _ (d : A) {i e : ℕ} (s : Searched i) (low : r.first ≤ i) (end : e ≡ r.first + r.count) where
    at_i : r.first + (i - r.first) ≡ i
    at_i = omega arith

    pub one_found : i < e → e ≤ length xs → p (f (get_or xs i d)) ≡ true → any p (map f (part r xs)) ≡ true
    one_found l h t = any_hit p f r xs d {s = r.first} {n = r.count} (i - r.first) refl refl (omega arith) (omega arith) (rw at_i t) s.rest

    pub one_searched : i < e → e ≤ length xs → p (f (get_or xs i d)) ≡ false → Searched (i + 1)
    one_searched l h t = record {
      rest =
          let z : i - r.first + 1 ≡ i + 1 - r.first = omega arith in
          any_turn p f r xs d {s = r.first} {n = r.count} (i - r.first) refl refl (omega arith) (omega arith) (rw at_i t) s.rest
          ∙ ap (λ (k : ℕ). any p (drop k (map f (part r xs)))) z;
    }

    pub all_searched : e ≤ i → any p (map f (part r xs)) ≡ false
    all_searched l = any_done p f r xs d {n = r.count} (i - r.first) refl (omega arith) s.rest
