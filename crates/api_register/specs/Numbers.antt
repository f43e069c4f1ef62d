-- What the register's calls answer, as a number and a lent word, for callers in C: include/hrazvanut.h takes them apart again.
use Rattle.std.specs.Prelude.{◌≡◌, List, ℕ, set}
use Rattle.std.proofs.Math.Option.{Option, none, some}
use Rattle.spec_file.specs.Refusal as refusal
use Rattle.spec_register.specs.declared.Added.{Added}
use Rattle.spec_register.specs.declared.Added.TheVariants as added
use Rattle.spec_register.specs.declared.Changed.{Changed}
use Rattle.spec_register.specs.declared.Changed.TheVariants as changed
use Rattle.spec_register.specs.declared.Refused.TheVariants.{NotRegister}
use Rattle.spec_register.specs.declared.Reloaded.{Reloaded}
use Rattle.spec_register.specs.declared.Reloaded.TheVariants as reloaded
use Rattle.spec_register.specs.Refusal as refused
use Rattle.api_numbers.specs.Numbers.{packed}

-- the place, or the refusal
abbrev pub added_number : Added → ℕ
added_number (added.At p m) = packed p 0 0
added_number (added.Refused x) = packed 0 0 (refused.number x)

abbrev pub changed_number : Changed → ℕ
changed_number (changed.Places m) = packed 0 0 0
changed_number (changed.Refused x) = packed 0 0 (refused.number x)

-- the length and the number of warnings, or the place and the refusal
abbrev pub reloaded_number : Reloaded → ℕ
reloaded_number (reloaded.Accepted n w m) = packed n w 0
reloaded_number (reloaded.Refused x p) = packed p 0 (refusal.number x)
reloaded_number reloaded.NotRegister = packed 0 0 (refused.number NotRegister)

-- ---- the places whose right has changed, of a call that is not refused

abbrev pub added_places : Added → Option ℕ
added_places (added.At p m) = some m
added_places (added.Refused x) = none

abbrev pub changed_places : Changed → Option ℕ
changed_places (changed.Places m) = some m
changed_places (changed.Refused x) = none

abbrev pub reloaded_places : Reloaded → Option ℕ
reloaded_places (reloaded.Accepted n w m) = some m
reloaded_places (reloaded.Refused x p) = none
reloaded_places reloaded.NotRegister = none

-- the first lent word takes them; a refused call leaves it
abbrev pub word_told : List ℕ → Option ℕ → List ℕ
word_told word none = word
word_told word (some m) = set word 0 m

-- a call answers r, and leaves the lent word so
pub record Tells (number : ℕ) (places : Option ℕ) (before after : List ℕ) (r : ℕ) : Type 0 where
  pub answered : r ≡ number
  pub word : after ≡ word_told before places

-- how an answer is told: as a number, and in the lent word
abbrev pub TellsAdded : Added → List ℕ → List ℕ → ℕ → Type 0
TellsAdded a = Tells (added_number a) (added_places a)

abbrev pub TellsChanged : Changed → List ℕ → List ℕ → ℕ → Type 0
TellsChanged a = Tells (changed_number a) (changed_places a)

abbrev pub TellsReloaded : Reloaded → List ℕ → List ℕ → ℕ → Type 0
TellsReloaded a = Tells (reloaded_number a) (reloaded_places a)
