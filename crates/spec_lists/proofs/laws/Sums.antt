-- What the elements of a list weigh together.
use Rattle.std.specs.Prelude.{◌≡◌, ℕ, ◌+◌, ◌≤◌, length}
use Rattle.std.proofs.Math.Path.{refl, sym, ap}
use Rattle.std.proofs.Common.{◌∙◌, length-append}
use mathlib.Core.List.{List, [], ◌∷◌, ◌++◌, map}
use native.Mathlib.Omega.{arith}
use Rattle.spec_lists.specs.Select.{joined, total}

module _ {A : Type 0} where
  -- what the elements of a list weigh together
  unfoldable pub sum : (A → ℕ) → List A → ℕ
  sum w [] = 0
  sum w (x ∷ xs) = w x + sum w xs

  pub sum_nil : (w : A → ℕ) → sum w [] ≡ 0
  unfolding sum
  sum_nil w = refl

  pub sum_cons : (w : A → ℕ) (x : A) (xs : List A) → sum w (x ∷ xs) ≡ w x + sum w xs
  unfolding sum
  sum_cons w x xs = refl

  pub sum_total : (w : A → ℕ) (xs : List A) → sum w xs ≡ total (map w xs)
  unfolding sum
  sum_total w [] = refl
  sum_total w (x ∷ xs) = ap (λ n. w x + n) (sum_total w xs)

  pub sum_append : (w : A → ℕ) (xs ys : List A) → sum w (xs ++ ys) ≡ sum w xs + sum w ys
  unfolding sum
  sum_append w [] ys = omega arith
  sum_append w (x ∷ xs) ys = omega (arith, sum_append w xs ys)

  pub sum_le : {v w : A → ℕ} → ((x : A) → v x ≤ w x) → (xs : List A) → sum v xs ≤ sum w xs
  unfolding sum
  sum_le f [] = omega arith
  sum_le f (x ∷ xs) = omega (arith, f x, sum_le f xs)

  pub length_sum : (xs : List A) → length xs ≡ sum (λ x. 1) xs
  unfolding sum
  length_sum [] = refl
  length_sum (x ∷ xs) = omega (arith, length_sum xs)

  pub sum_same : {v w : A → ℕ} → ((x : A) → v x ≡ w x) → (xs : List A) → sum v xs ≡ sum w xs
  unfolding sum
  sum_same e [] = refl
  sum_same e (x ∷ xs) = rw (e x, sum_same e xs)

  pub sum_ones : {v : A → ℕ} → ((x : A) → v x ≡ 1) → (xs : List A) → sum v xs ≡ length xs
  sum_ones e xs = sum_same e xs ∙ sym (length_sum xs)

  pub sum_none : {v : A → ℕ} → ((x : A) → v x ≡ 0) → (xs : List A) → sum v xs ≡ 0
  unfolding sum
  sum_none e [] = refl
  sum_none e (x ∷ xs) = omega (arith, e x, sum_none e xs)

  pub sum_plus : (v w : A → ℕ) (xs : List A) → sum (λ x. v x + w x) xs ≡ sum v xs + sum w xs
  unfolding sum
  sum_plus v w [] = refl
  sum_plus v w (x ∷ xs) = omega (arith, sum_plus v w xs)

module _ {A : Type 0} where
  pub sum_joined : (w : A → ℕ) (xss : List (List A)) → sum w (joined xss) ≡ sum (sum w) xss
  unfolding sum
  sum_joined w [] = refl
  sum_joined w (xs ∷ xss) = rw (sum_append, sum_joined w xss)

  pub length_joined : (xss : List (List A)) → length (joined xss) ≡ sum length xss
  unfolding sum
  length_joined [] = refl
  length_joined (xs ∷ xss) = rw (length-append, length_joined xss)

module _ {A B : Type 0} where
  pub sum_map : (w : B → ℕ) (f : A → B) (xs : List A) → sum w (map f xs) ≡ sum (λ x. w (f x)) xs
  unfolding sum
  sum_map w f [] = refl
  sum_map w f (x ∷ xs) = ap (λ n. w (f x) + n) (sum_map w f xs)

  -- sums over two lists, in either order
  pub sum_swap : (w : A → B → ℕ) (xs : List A) (ys : List B) → sum (λ x. sum (w x) ys) xs ≡ sum (λ y. sum (λ x. w x y) xs) ys
  unfolding sum
  sum_swap w [] ys = sym (sum_none (λ y. refl) ys)
  sum_swap w (x ∷ xs) ys = rw (sum_plus (w x) (λ y. sum (λ z. w z y) xs) ys, sum_swap w xs ys)

pub length_each : {A B : Type 0} (f : A → List B) (xs : List A) → length (joined (map f xs)) ≡ sum (λ x. length (f x)) xs
length_each f xs = length_joined (map f xs) ∙ sum_map length f xs
