-- A reading that is set: what the functions promise.
use Rattle.std.specs.Prelude.{◌≡◌, true, false, List, ℕ, ◌+◌, ◌*◌, ◌<◌, set}
use Rattle.std.proofs.Math.Option.{some}
use Rattle.spec_calc.specs.declared.Reading.{Reading}
use Rattle.spec_calc.specs.Value.{heard}
use Rattle.spec_file.specs.Limit.{access_groups}
use Rattle.spec_table.specs.View.{view}
use Rattle.spec_table.specs.Policy.{row}
use Rattle.spec_decision.specs.Groups.{group_named}
use Rattle.spec_register.specs.Register.{letters}
use Rattle.spec_register.specs.Refusal.{no_input}
use Rattle.spec_register.specs.declared.Changed.{Changed}
use Rattle.spec_places.specs.Storage.{Lent, readings_in}
use Rattle.spec_places.specs.Writing.{state_of}
use Rattle.table_read.specs.Search.{Index}
use Rattle.std.specs.Prelude.{Some, None}
use Rattle.table_read.specs.Stored.{Stored}
use Rattle.reg_renew.specs.Renew.{AllRenewed}

-- the i-th access group has a name, and an input of a letter
pub record InputOf (t n : List ℕ) (letter i : ℕ) : Type 0 where
  pub named : group_named t n ≡ some (record { number = i; row = row (view t) access_groups i })
  pub given : no_input t letter (group_named t n) ≡ false
  pub stored : Stored t access_groups i
  pub lettered : letter < letters

-- a search for it
abbrev pub HasInput : List ℕ → List ℕ → ℕ → Index → Type 0
HasInput t n letter None = no_input t letter (group_named t n) ≡ true
HasInput t n letter (Some i) = InputOf t n letter i

-- a reading of the i-th group written, and the rights of its places renewed
pub record ReadingSet (s : Lent) (i letter : ℕ) (x : Reading) (after : Lent) (m : ℕ) : Type 0 where
  pub states : after.states ≡ set s.states (i * letters + letter) (state_of x)
  pub values : after.values ≡ set s.values (i * letters + letter) (heard x)
  pub renewed : AllRenewed s.table i (readings_in after.states after.values i) s.places after.places m

-- a call answers and leaves what it is to
pub record Given (told : Changed) (left : Lent) (answer : Changed) (after : Lent) : Type 0 where
  pub answers : answer ≡ told
  pub leaves : after ≡ left
