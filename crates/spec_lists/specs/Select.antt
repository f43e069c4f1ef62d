-- Every, some, those that, the longest run: over any list.
use Rattle.std.specs.Prelude.{Bool, true, false, ◌&&◌, ◌||◌, List, [], ◌∷◌, ◌++◌, ℕ, ◌+◌}
use Rattle.std.proofs.Math.Option.{Option, none, some}

module _ {A : Type 0} where
  abbrev pub all : (A → Bool) → List A → Bool
  all p [] = true
  all p (x ∷ xs) = p x && all p xs

  abbrev pub any : (A → Bool) → List A → Bool
  any p [] = false
  any p (x ∷ xs) = p x || any p xs

  -- there is an element
  abbrev pub nonempty : List A → Bool
  nonempty [] = false
  nonempty (x ∷ xs) = true

  abbrev pub prepend_if : Bool → A → List A → List A
  prepend_if true x xs = x ∷ xs
  prepend_if false x xs = xs

  -- those that pass the test, in their order
  abbrev pub select : (A → Bool) → List A → List A
  select p [] = []
  select p (x ∷ xs) = prepend_if (p x) x (select p xs)

  abbrev pub first_if : Bool → A → Option A → Option A
  first_if true x o = some x
  first_if false x o = o

  -- the first that passes the test
  abbrev pub first : (A → Bool) → List A → Option A
  first p [] = none
  first p (x ∷ xs) = first_if (p x) x (first p xs)

  abbrev pub keep_if : Bool → A → List A → List A
  keep_if true x xs = x ∷ xs
  keep_if false x xs = []

  -- the longest run at the start whose elements pass the test
  abbrev pub run : (A → Bool) → List A → List A
  run p [] = []
  run p (x ∷ xs) = keep_if (p x) x (run p xs)

  abbrev pub skip_if : Bool → List A → List A → List A
  skip_if true later here = later
  skip_if false later here = here

  -- what follows that run
  abbrev pub after : (A → Bool) → List A → List A
  after p [] = []
  after p (x ∷ xs) = skip_if (p x) (after p xs) (x ∷ xs)

  abbrev pub joined : List (List A) → List A
  joined [] = []
  joined (x ∷ xs) = x ++ joined xs

module _ {A : Type 0} where
  -- there is one, and it passes the test
  abbrev pub holds_of : Option A → (A → Bool) → Bool
  holds_of none p = false
  holds_of (some a) p = p a

  -- there is none
  abbrev pub missing : Option A → Bool
  missing none = true
  missing (some a) = false

module _ {A B C : Type 0} where
  -- two lists taken side by side
  abbrev pub beside : (A → B → C) → List A → List B → List C
  beside f [] ys = []
  beside f (x ∷ xs) [] = []
  beside f (x ∷ xs) (y ∷ ys) = f x y ∷ beside f xs ys

-- three lists taken side by side
abbrev pub beside₃ : {A B C D : Type 0} → (A → B → C → D) → List A → List B → List C → List D
beside₃ f xs ys zs = beside (λ g z. g z) (beside f xs ys) zs

abbrev pub total : List ℕ → ℕ
total [] = 0
total (n ∷ ns) = n + total ns
