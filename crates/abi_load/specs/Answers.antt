-- What the calls that load leave and answer.
use Rattle.std.specs.Prelude.{◌≡◌, List, ℕ, Float}
use Rattle.spec_load.specs.Load.{Result}
use Rattle.spec_load.specs.Listing.{Listing}
use Rattle.spec_places.specs.Storage.{Lent, lent}
use Rattle.spec_places.specs.Calls.{told_reloaded, left_reloaded}
use Rattle.api_numbers.specs.Numbers.{load_number, listed_number}
use Rattle.api_register.specs.Numbers.{TellsReloaded}

-- what a load leaves and answers
pub record Leaves (o : Result) (bytes : List ℕ) (r : ℕ) : Type 0 where
  pub left : bytes ≡ o.bytes
  pub answered : r ≡ load_number o.answer

-- what a list of warnings leaves and answers
pub record Lists (l : Listing) (numbers places : List ℕ) (r : ℕ) : Type 0 where
  pub left_numbers : numbers ≡ l.numbers
  pub left_places : places ≡ l.places
  pub answered : r ≡ listed_number l.answer

-- what a load under a register leaves and answers
pub record Reloads (before : Lent) (text : List ℕ) (after : Lent) (word word' : List ℕ) (r : ℕ) : Type 0 where
  pub told : TellsReloaded (told_reloaded before text) word word' r
  pub left : after ≡ left_reloaded before text

-- the same whatever values stand beside the states: a load neither reads nor writes them
abbrev pub ReloadsAny : (table places states text table' places' states' word word' : List ℕ) → ℕ → Type 0
ReloadsAny t p s text t' p' s' word word' r = (values : List Float) → Reloads (lent t p s values) text (lent t' p' s' values) word word' r
