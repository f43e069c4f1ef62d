-- The calculation's answer, as relations of its text. 02, ticket 5: "The calculation's answer shall be a value, or bad with the lowest letter in its text
-- whose reading is bad, or, with none such, bad by arithmetic." The function that finds it is Value.antt: worth.
use Rattle.std.specs.Prelude.{◌≡◌, true, List, ℕ, Float}
use Rattle.spec_lists.specs.Every.{Every}
use Rattle.spec_calc.specs.declared.Reading.{Reading}
use Rattle.spec_calc.specs.Expression.{Tree, Parses}
use Rattle.spec_calc.specs.Value.{reading, good, letters, value, FiniteParts, LowestBad}

-- the text s is a calculation, "bad with the lowest letter in its text whose reading is bad"
pub record IsBadBy (rs : List Reading) (s : List ℕ) (i : ℕ) : Type 0 where
  pub tree : Tree
  pub says : Parses s tree
  pub letter : LowestBad rs (letters tree) i

-- no letter of the calculation t is bad
abbrev pub InputsGood : List Reading → Tree → Type 0
InputsGood rs t = Every (λ i. good (reading rs i) ≡ true) (letters t)

-- "or, with none such, bad by arithmetic"
pub record IsBadByArithmetic (rs : List Reading) (s : List ℕ) : Type 0 where
  pub tree : Tree
  pub says : Parses s tree
  pub inputs : InputsGood rs tree
  pub parts : FiniteParts rs tree → ⊥

-- "a value"
pub record ComesTo (rs : List Reading) (s : List ℕ) (x : Float) : Type 0 where
  pub tree : Tree
  pub says : Parses s tree
  pub inputs : InputsGood rs tree
  pub parts : FiniteParts rs tree
  pub is : value rs tree ≡ x
