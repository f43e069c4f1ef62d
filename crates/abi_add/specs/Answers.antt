-- What adding a client in C answers, and the places that it leaves.
use Rattle.std.specs.Prelude.{◌≡◌, List, ℕ}
use Rattle.spec_register.specs.Register.{Client}
use Rattle.spec_places.specs.Storage.{Lent}
use Rattle.spec_places.specs.Calls.{told_added, places_added}
use Rattle.api_register.specs.Numbers.{TellsAdded}

-- the lent storage, and the call's words; then the places as they are left, the lent word before and after, and the number
pub record Adds (s : Lent) (c : Client) (places word word' : List ℕ) (r : ℕ) : Type 0 where
  pub told : TellsAdded (told_added s c) word word' r
  pub left : places ≡ places_added s c
