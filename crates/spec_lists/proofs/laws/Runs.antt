-- Where runs lie, and properties of lists side by side.
use Rattle.std.specs.Prelude.{◌≡◌, refl, Bool, ◌&&◌, List, [], ◌∷◌, ◌++◌, map, ℕ, ◌+◌, ◌≤◌, min, length}
use Rattle.std.proofs.Common.{ap, ◌∙◌, arith, length-append}
use Rattle.spec_lists.specs.Select.{all, joined, beside, beside₃, total}
use Rattle.spec_lists.specs.Runs.{Run, runs, part, spread}
use Rattle.spec_lists.proofs.laws.Joined.{joined_append}
use Rattle.spec_lists.specs.Every.{Every, nil, cons}
use Rattle.spec_lists.proofs.laws.Every.{every_take, every_drop}

-- a run that ends at e or before
abbrev pub Within : ℕ → Run → Type 0
Within e r = r.first + r.count ≤ e

module _ {A : Type 0} where
  pub runs_within : (e n : ℕ) (xs : List (List A)) → n + length (joined xs) ≤ e → Every (Within e) (runs n xs)
  runs_within e n [] h = nil
  runs_within e n (x ∷ xs) h =
      let l = length-append x (joined xs) in
      cons {x = record { first = n; count = length x }} (omega arith) (runs_within e (n + length x) xs (omega arith))

  pub spread_within : (e n : ℕ) (xss : List (List (List A))) → n + length (joined (joined xss)) ≤ e → Every (Every (Within e)) (spread n xss)
  spread_within e n [] h = nil
  spread_within e n (xs ∷ xss) h =
      let l = ap length (joined_append xs (joined xss)) ∙ length-append (joined xs) (joined (joined xss)) in
      cons (runs_within e n xs (omega arith)) (spread_within e (n + length (joined xs)) xss (omega arith))

  pub runs_counts : {m : ℕ} (n : ℕ) {xs : List (List A)} → Every (λ x. length x ≤ m) xs → Every (λ r. r.count ≤ m) (runs n xs)
  runs_counts n nil = nil
  runs_counts n (cons {x = x} p e) = cons p (runs_counts (n + length x) e)

  pub spread_counts : {m : ℕ} (n : ℕ) {xss : List (List (List A))} → Every (Every (λ x. length x ≤ m)) xss → Every (Every (λ r. r.count ≤ m)) (spread n xss)
  spread_counts n nil = nil
  spread_counts n (cons {x = xs} p e) = cons (runs_counts n p) (spread_counts (n + length (joined xs)) e)

  pub runs_append : (n m : ℕ) (xs ys : List (List A)) → n + length (joined xs) ≡ m → runs n xs ++ runs m ys ≡ runs n (xs ++ ys)
  runs_append n m [] ys h = ap (λ (k : ℕ). runs k ys) (omega arith)
  runs_append n m (x ∷ xs) ys h =
      let l = length-append x (joined xs) in
      ap (λ (rs : List Run). record { first = n; count = length x } ∷ rs) (runs_append (n + length x) m xs ys (omega arith))

-- what holds of all holds of those in a run
pub every_part : {A : Type 0} {P : A → Type 0} (r : Run) {xs : List A} → Every P xs → Every P (part r xs)
every_part r e = every_take r.count (every_drop r.first e)

pub all_map : {A B : Type 0} (p : B → Bool) (g : A → B) (xs : List A) → all (λ x. p (g x)) xs ≡ all p (map g xs)
all_map p g [] = refl
all_map p g (x ∷ xs) = ap (λ (b : Bool). p (g x) && b) (all_map p g xs)

-- lists of limited lengths put one behind the other
pub length_joined_map :
    {A B : Type 0} (g : A → List B) (m : A → ℕ) → ((x : A) → length (g x) ≤ m x) → (xs : List A) → length (joined (map g xs)) ≤ total (map m xs)
length_joined_map g m h [] = omega arith
length_joined_map g m h (x ∷ xs) = omega (arith, length-append (g x) (joined (map g xs)), h x, length_joined_map g m h xs)

module _ {A B C : Type 0} where
  pub every_beside :
      {P : A → Type 0} {Q : B → Type 0} {R : C → Type 0} (f : A → B → C)
      → ((x : A) (y : B) → P x → Q y → R (f x y)) → {xs : List A} {ys : List B} → Every P xs → Every Q ys → Every R (beside f xs ys)
  every_beside f g nil d = nil
  every_beside f g (cons p c) nil = nil
  every_beside f g (cons {x = x} p c) (cons {x = y} q d) = cons (g x y p q) (every_beside f g c d)

  pub beside_length : (f : A → B → C) (xs : List A) (ys : List B) → length (beside f xs ys) ≡ min (length xs) (length ys)
  beside_length f [] ys = omega arith
  beside_length f (x ∷ xs) [] = omega arith
  beside_length f (x ∷ xs) (y ∷ ys) = omega (arith, beside_length f xs ys)

pub every_beside₃ :
    {A B C D : Type 0} {P : A → Type 0} {Q : B → Type 0} {R : C → Type 0} {S : D → Type 0} (f : A → B → C → D)
    → ((x : A) (y : B) (z : C) → P x → Q y → R z → S (f x y z))
    → {xs : List A} {ys : List B} {zs : List C} → Every P xs → Every Q ys → Every R zs → Every S (beside₃ f xs ys zs)
every_beside₃ {C} {R} {S} f g c d e =
    every_beside (λ h z. h z) (λ h z p q. p z q) (every_beside {R = λ h. (z : C) → R z → S (h z)} f (λ x y p q z r. g x y z p q r) c d) e
