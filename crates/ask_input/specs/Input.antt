-- Which input of a group has a letter.
use Rattle.std.specs.Prelude.{List, ℕ}
use Rattle.spec_file.specs.Limit.{inputs}
use Rattle.spec_table.specs.View.{view}
use Rattle.spec_decision.specs.LookUp.{input_of}
use Rattle.table_read.specs.Search.{Index}
use Rattle.table_read.specs.Search.{Finds, group_for}

-- the number of the input that has the letter, in the group that answers
abbrev pub FindsLetter : List ℕ → List ℕ → ℕ → Index → Type 0
FindsLetter b g l r = Finds ((view b).records inputs) (input_of (view b) l (group_for b g)) r
