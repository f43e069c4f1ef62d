-- What setting a reading in C answers, and what it leaves of the slices that it is lent.
use Rattle.std.specs.Prelude.{◌≡◌, List, ℕ}
use Rattle.spec_calc.specs.declared.Reading.{Reading}
use Rattle.spec_register.specs.declared.Changed.{Changed}
use Rattle.spec_places.specs.Storage.{Lent}
use Rattle.spec_places.specs.Calls.{told_set, left_set}
use Rattle.api_register.specs.Numbers.{TellsChanged}

-- the answer and the storage that a call is to give; then the storage as it is left, the lent word before and after, and the number
pub record Gives (answer : Changed) (left after : Lent) (word word' : List ℕ) (r : ℕ) : Type 0 where
  pub told : TellsChanged answer word word' r
  pub leaves : after ≡ left

abbrev pub Sets : Lent → List ℕ → ℕ → Reading → Lent → List ℕ → List ℕ → ℕ → Type 0
Sets s n letter x = Gives (told_set s n letter x) (left_set s n letter x)
