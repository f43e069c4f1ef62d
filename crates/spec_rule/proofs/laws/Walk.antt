-- Walking a list by index: what is left of it is what is to do.
use Rattle.std.specs.Prelude.{◌≡◌, Bool, true, false, ◌||◌, List, [], ◌∷◌, map, ℕ, suc, ◌+◌, ◌≤◌, ◌<◌, length, drop, set, get_or}
use Rattle.std.proofs.Common.{sym, ap, ◌∙◌, arith, add-one, length-take, length-drop, drop_of_length-le, drop-cons, get_or-take, get_or-drop}
use Rattle.std.proofs.Math.Option.{some}
use Rattle.std.proofs.lemmas.List.Edits.{sets}
use Rattle.spec_lists.specs.Select.{any, first}
use Rattle.spec_lists.specs.Runs.{Run, part}
use Rattle.spec_lists.proofs.laws.Joined.{map_drop}

module _ {A : Type 0} where
  -- one more of a list
  pub list_on : (xs : List A) (d : A) (k : ℕ) → k < length xs → drop k xs ≡ get_or xs k d ∷ drop (k + 1) xs
  list_on xs d k l = rw (add-one k) (drop-cons xs k d l)

  pub list_end : (xs : List A) (k : ℕ) → length xs ≤ k → drop k xs ≡ []
  list_end xs k l = drop_of_length-le xs l

  -- an element of a run
  pub part_at : (r : Run) (xs : List A) (d : A) (k : ℕ) → k < r.count → get_or (part r xs) k d ≡ get_or xs (r.first + k) d
  part_at r xs d k l = get_or-take r.count (drop r.first xs) k d l ∙ get_or-drop r.first xs k d

  pub part_count : (r : Run) (xs : List A) → r.first + r.count ≤ length xs → length (part r xs) ≡ r.count
  part_count r xs h = omega (arith, length-take r.count (drop r.first xs), length-drop r.first xs)

  pub part_on :
      (r : Run) (xs : List A) (d : A) (k : ℕ) → r.first + r.count ≤ length xs → k < r.count
      → drop k (part r xs) ≡ get_or xs (r.first + k) d ∷ drop (k + 1) (part r xs)
  part_on r xs d k h l =
      list_on (part r xs) d k (omega (arith, part_count r xs h)) ∙ ap (λ (x : A). x ∷ drop (k + 1) (part r xs)) (part_at r xs d k l)

  pub part_end : (r : Run) (xs : List A) (k : ℕ) → r.count ≤ k → drop k (part r xs) ≡ []
  part_end r xs k l = list_end (part r xs) k (omega (arith, length-take r.count (drop r.first xs)))

  -- a search that is not over, one that has found, one that has not
  pub any_off : (p : A → Bool) {x : A} {xs ys : List A} → xs ≡ x ∷ ys → p x ≡ false → any p xs ≡ any p ys
  any_off p {x} {xs} {ys} e f = ap (any p) e ∙ ap (λ (b : Bool). b || any p ys) f

  pub any_on : (p : A → Bool) {x : A} {xs ys : List A} → xs ≡ x ∷ ys → p x ≡ true → any p xs ≡ true
  any_on p {x} {xs} {ys} e f = ap (any p) e ∙ ap (λ (b : Bool). b || any p ys) f

  pub first_off : (p : A → Bool) {x : A} {xs ys : List A} → xs ≡ x ∷ ys → p x ≡ false → first p xs ≡ first p ys
  first_off p e f = ap (first p) e ∙ rw f

  pub first_on : (p : A → Bool) {x : A} {xs ys : List A} → xs ≡ x ∷ ys → p x ≡ true → first p xs ≡ some x
  first_on p e f = ap (first p) e ∙ rw f

  -- one more store of a run of stores
  pub sets_on : {w : A} {ws vs : List A} (l : List A) (j : ℕ) {k : ℕ} → suc j ≡ k → vs ≡ w ∷ ws → sets l j vs ≡ sets (set l j w) k ws
  sets_on {w} {ws} l j n e = ap (sets l j) e ∙ ap (λ (m : ℕ). sets (set l j w) m ws) n

module _ {A B : Type 0} (f : A → B) where
  -- the same of what elements are read as, in a list and in a run
  pub mapped_on : {x : A} (xs : List A) (k : ℕ) → drop k xs ≡ x ∷ drop (k + 1) xs → drop k (map f xs) ≡ f x ∷ drop (k + 1) (map f xs)
  mapped_on {x} xs k e = sym (map_drop f k xs) ∙ ap (map f) e ∙ ap (λ (l : List B). f x ∷ l) (map_drop f (k + 1) xs)

  pub mapped_end : (xs : List A) (k : ℕ) → drop k xs ≡ [] → drop k (map f xs) ≡ []
  mapped_end xs k e = sym (map_drop f k xs) ∙ ap (map f) e

  pub read_on :
      (r : Run) (xs : List A) (d : A) (k : ℕ) → r.first + r.count ≤ length xs → k < r.count
      → drop k (map f (part r xs)) ≡ f (get_or xs (r.first + k) d) ∷ drop (k + 1) (map f (part r xs))
  read_on r xs d k h l = mapped_on (part r xs) k (part_on r xs d k h l)

  pub read_end : (r : Run) (xs : List A) (k : ℕ) → r.count ≤ k → drop k (map f (part r xs)) ≡ []
  read_end r xs k l = mapped_end (part r xs) k (part_end r xs k l)

-- a loop over a run that the code knows as s and n
module _ {A B : Type 0} (p : B → Bool) (f : A → B) (r : Run) (xs : List A) (d : A) where
  pub any_turn :
      {s n : ℕ} (i : ℕ) → s ≡ r.first → n ≡ r.count → r.first + r.count ≤ length xs → i < n → p (f (get_or xs (s + i) d)) ≡ false
      → any p (map f (part r xs)) ≡ any p (drop i (map f (part r xs))) → any p (map f (part r xs)) ≡ any p (drop (i + 1) (map f (part r xs)))
  any_turn i e c h l t v = v ∙ any_off p (read_on f r xs d i h (omega arith)) (rw e at t)

  pub any_hit :
      {s n : ℕ} (i : ℕ) → s ≡ r.first → n ≡ r.count → r.first + r.count ≤ length xs → i < n → p (f (get_or xs (s + i) d)) ≡ true
      → any p (map f (part r xs)) ≡ any p (drop i (map f (part r xs))) → any p (map f (part r xs)) ≡ true
  any_hit i e c h l t v = v ∙ any_on p (read_on f r xs d i h (omega arith)) (rw e at t)

  pub any_done : {n : ℕ} (i : ℕ) → n ≡ r.count → n ≤ i → any p (map f (part r xs)) ≡ any p (drop i (map f (part r xs))) → any p (map f (part r xs)) ≡ false
  any_done i c l v = v ∙ ap (any p) (read_end f r xs i (omega arith))
