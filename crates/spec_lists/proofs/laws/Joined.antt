-- Laws of runs, of lists put one behind the other and of lists side by side.
use Rattle.std.specs.Prelude.{◌≡◌, refl, Bool, true, false, List, [], ◌∷◌, ◌++◌, map, ℕ, zero, suc, ◌+◌, length, take, drop}
use Rattle.std.proofs.Common.{sym, ap, ap₂, subst, ◌∙◌, append_assoc, arith, length-append}
use Rattle.std.proofs.lemmas.List.{length-map}
use Rattle.std.proofs.Math.Seq.{take-append_seam, drop-append_seam}
use Rattle.spec_lists.specs.Select.{joined, select, prepend_if, beside}
use Rattle.spec_lists.specs.Runs.{Run, runs, part, spread}

module _ {A : Type 0} where
  pub joined_append : (xs ys : List (List A)) → joined (xs ++ ys) ≡ joined xs ++ joined ys
  joined_append [] ys = refl
  joined_append (x ∷ xs) ys = ap (λ (l : List A). x ++ l) (joined_append xs ys) ∙ sym (append_assoc x (joined xs) (joined ys))

  pub select_append : (p : A → Bool) (xs ys : List A) → select p (xs ++ ys) ≡ select p xs ++ select p ys
  select_append p [] ys = refl
  select_append p (x ∷ xs) ys = go (p x) (select_append p xs ys)
    where
      go : (b : Bool) → select p (xs ++ ys) ≡ select p xs ++ select p ys → prepend_if b x (select p (xs ++ ys)) ≡ prepend_if b x (select p xs) ++ select p ys
      go true e = ap (λ (l : List A). x ∷ l) e
      go false e = e

  pub length_runs : (n : ℕ) (xs : List (List A)) → length (runs n xs) ≡ length xs
  length_runs n [] = refl
  length_runs n (x ∷ xs) = ap suc (length_runs (n + length x) xs)

  -- what stands at the seam of three lists
  pub part_seam : (pre x post : List A) → part (record { first = length pre; count = length x }) (pre ++ (x ++ post)) ≡ x
  part_seam pre x post = ap (λ (l : List A). take (length x) l) (drop-append_seam pre (x ++ post)) ∙ take-append_seam x post

  -- each list stands in its run
  pub part_runs : (pre : List A) (xs : List (List A)) (post : List A) → map (λ r. part r (pre ++ (joined xs ++ post))) (runs (length pre) xs) ≡ xs
  part_runs pre [] post = refl
  part_runs pre (x ∷ xs) post =
      ap₂
      (λ (y : List A) (ys : List (List A)). y ∷ ys)
      (ap (λ (l : List A). part (record { first = length pre; count = length x }) (pre ++ l)) (append_assoc x (joined xs) post)
      ∙ part_seam pre x (joined xs ++ post))
      (subst
      (λ (l : List A). map (λ r. part r l) (runs (length pre + length x) xs) ≡ xs)
      moved
      (subst
      (λ (n : ℕ). map (λ r. part r ((pre ++ x) ++ (joined xs ++ post))) (runs n xs) ≡ xs)
      (length-append pre x)
      (part_runs (pre ++ x) xs post)))
    where
      moved : (pre ++ x) ++ (joined xs ++ post) ≡ pre ++ ((x ++ joined xs) ++ post)
      moved = append_assoc pre x (joined xs ++ post) ∙ ap (λ (l : List A). pre ++ l) (sym (append_assoc x (joined xs) post))

  -- and so do lists of lists
  pub part_spread :
      (pre : List A) (xss : List (List (List A))) (post : List A)
      → map (map (λ r. part r (pre ++ (joined (joined xss) ++ post)))) (spread (length pre) xss) ≡ xss
  part_spread pre [] post = refl
  part_spread pre (xs ∷ xss) post =
      ap₂
      (λ (y : List (List A)) (ys : List (List (List A))). y ∷ ys)
      (ap (λ (l : List A). map (λ r. part r (pre ++ l)) (runs (length pre) xs)) split ∙ part_runs pre xs (joined (joined xss) ++ post))
      (subst
      (λ (l : List A). map (map (λ r. part r l)) (spread (length pre + length (joined xs)) xss) ≡ xss)
      moved
      (subst
      (λ (n : ℕ). map (map (λ r. part r ((pre ++ joined xs) ++ (joined (joined xss) ++ post)))) (spread n xss) ≡ xss)
      (length-append pre (joined xs))
      (part_spread (pre ++ joined xs) xss post)))
    where
      split : joined (xs ++ joined xss) ++ post ≡ joined xs ++ (joined (joined xss) ++ post)
      split = ap (λ (l : List A). l ++ post) (joined_append xs (joined xss)) ∙ append_assoc (joined xs) (joined (joined xss)) post

      moved : (pre ++ joined xs) ++ (joined (joined xss) ++ post) ≡ pre ++ (joined (xs ++ joined xss) ++ post)
      moved = append_assoc pre (joined xs) (joined (joined xss) ++ post) ∙ ap (λ (l : List A). pre ++ l) (sym split)

module _ {A B : Type 0} where
  pub map_append : (f : A → B) (xs ys : List A) → map f (xs ++ ys) ≡ map f xs ++ map f ys
  map_append f [] ys = refl
  map_append f (x ∷ xs) ys = ap (λ (l : List B). f x ∷ l) (map_append f xs ys)

  pub map_take : (f : A → B) (n : ℕ) (xs : List A) → map f (take n xs) ≡ take n (map f xs)
  map_take f zero xs = refl
  map_take f (suc n) [] = refl
  map_take f (suc n) (x ∷ xs) = ap (λ (l : List B). f x ∷ l) (map_take f n xs)

  pub map_drop : (f : A → B) (n : ℕ) (xs : List A) → map f (drop n xs) ≡ drop n (map f xs)
  map_drop f zero xs = refl
  map_drop f (suc n) [] = refl
  map_drop f (suc n) (x ∷ xs) = map_drop f n xs

  pub map_part : (f : A → B) (r : Run) (xs : List A) → map f (part r xs) ≡ part r (map f xs)
  map_part f r xs = map_take f r.count (drop r.first xs) ∙ ap (λ (l : List B). take r.count l) (map_drop f r.first xs)

  pub map_joined : (f : A → B) (xs : List (List A)) → map f (joined xs) ≡ joined (map (map f) xs)
  map_joined f [] = refl
  map_joined f (x ∷ xs) = map_append f x (joined xs) ∙ ap (λ (l : List B). map f x ++ l) (map_joined f xs)

  -- runs look at lengths only
  pub runs_map : (f : A → B) (n : ℕ) (xs : List (List A)) → runs n (map (map f) xs) ≡ runs n xs
  runs_map f n [] = refl
  runs_map f n (x ∷ xs) =
      ap₂
      (λ (a : ℕ) (rs : List Run). record { first = n; count = a } ∷ rs)
      (length-map x f)
      (ap (λ (a : ℕ). runs (n + a) (map (map f) xs)) (length-map x f) ∙ runs_map f (n + length x) xs)

-- the lists that the elements have, joined: of two lists, and of lists joined
module _ {A B : Type 0} (f : A → List B) where
  pub each_append : (xs ys : List A) → joined (map f (xs ++ ys)) ≡ joined (map f xs) ++ joined (map f ys)
  each_append xs ys = ap joined (map_append f xs ys) ∙ joined_append (map f xs) (map f ys)

  pub joined_each : {C : Type 0} (g : C → List A) (xs : List C) → joined (map f (joined (map g xs))) ≡ joined (map (λ x. joined (map f (g x))) xs)
  joined_each g [] = refl
  joined_each g (x ∷ xs) = each_append (g x) (joined (map g xs)) ∙ ap (λ (l : List B). joined (map f (g x)) ++ l) (joined_each g xs)

module _ {A B C : Type 0} where
  pub map_map : (g : B → C) (f : A → B) (xs : List A) → map g (map f xs) ≡ map (λ x. g (f x)) xs
  map_map g f [] = refl
  map_map g f (x ∷ xs) = ap (λ (l : List C). g (f x) ∷ l) (map_map g f xs)

module _ {A B C D : Type 0} (f : A → B → C) (g : C → D) where
  -- what depends on the left list alone
  pub beside_left : (h : A → D) → ((x : A) (y : B) → g (f x y) ≡ h x) → (xs : List A) (ys : List B) → length xs ≡ length ys → map g (beside f xs ys) ≡ map h xs
  beside_left h e [] ys l = refl
  beside_left h e (x ∷ xs) [] l = absurd (omega arith)
  beside_left h e (x ∷ xs) (y ∷ ys) l = ap₂ (λ (d : D) (ds : List D). d ∷ ds) (e x y) (beside_left h e xs ys (omega arith))

  -- what depends on the right list alone
  pub beside_right : (h : B → D) → ((x : A) (y : B) → g (f x y) ≡ h y) → (xs : List A) (ys : List B) → length xs ≡ length ys → map g (beside f xs ys) ≡ map h ys
  beside_right h e [] [] l = refl
  beside_right h e [] (y ∷ ys) l = absurd (omega arith)
  beside_right h e (x ∷ xs) [] l = absurd (omega arith)
  beside_right h e (x ∷ xs) (y ∷ ys) l = ap₂ (λ (d : D) (ds : List D). d ∷ ds) (e x y) (beside_right h e xs ys (omega arith))
