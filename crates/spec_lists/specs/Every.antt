-- A property of every element of a list.
use Rattle.std.specs.Prelude.{◌≡◌, Bool, true, false, List, [], ◌∷◌, ◌++◌}

module _ {A : Type 0} where
  pub data Every (P : A → Type 0) : List A → Type 0 where
    nil : Every P []
    cons : {x : A} {xs : List A} → P x → Every P xs → Every P (x ∷ xs)

  -- x is the first of a list that passes a test
  pub record First (p : A → Bool) (xs : List A) (x : A) : Type 0 where
    pub earlier : List A
    pub later : List A
    pub among : xs ≡ earlier ++ (x ∷ later)
    pub fail : Every (λ y. p y ≡ false) earlier
    pub pass : p x ≡ true
