-- What removing a client in C answers, and the places that it leaves.
use Rattle.std.specs.Prelude.{◌≡◌, List, ℕ}
use Rattle.spec_places.specs.Calls.{told_removed, places_removed}
use Rattle.api_register.specs.Numbers.{TellsChanged}

-- the lent places, and the one to be freed; then the places as they are left, the lent word before and after, and the number
pub record Removes (b : List ℕ) (p : ℕ) (places word word' : List ℕ) (r : ℕ) : Type 0 where
  pub told : TellsChanged (told_removed b p) word word' r
  pub left : places ≡ places_removed b p
