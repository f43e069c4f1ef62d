-- Searches among the records of a table.
use Rattle.std.specs.Prelude.{Some, None, List, [], ℕ, ◌<◌, eqb, length, get_or}
use Rattle.std.specs.Prelude as rust
use Rattle.std.proofs.Math.Option.{Option, none, some, map}
use Rattle.spec_lists.specs.Select.{first}
use Rattle.spec_lists.specs.Runs.{part}
use Rattle.spec_rule.specs.Answering.{named, answering}
use Rattle.spec_file.specs.Limit.{access_groups, inputs}
use Rattle.spec_table.specs.View.{view}
use Rattle.spec_table.specs.Check.{inputs_run, letter_field}
use Rattle.spec_table.specs.Policy.{name, row}
use Rattle.spec_decision.specs.Groups.{groups_of, group_name, group_named}

-- the number of what a search found, if it found anything
abbrev pub Index : Type 0
Index = rust.Option ℕ

-- a search that finds one of the rows or none, and the number of that row
pub data Finds (rows : List (List ℕ)) : Option (List ℕ) → Index → Type 0 where
  found : (i : ℕ) → i < length rows → Finds rows (some (get_or rows i [])) (Some i)
  not_found : Finds rows none None

-- a number that was found, or none
abbrev pub index_of : Option ℕ → Index
index_of none = None
index_of (some i) = Some i

-- the number of the first access group of a name, the name taken as it is
abbrev pub number_named : List ℕ → List ℕ → Option ℕ
number_named b g = map (λ x. x.number) (named (group_name b) g (groups_of b))

-- the same where the empty name is DEFAULT's
abbrev pub number_full : List ℕ → List ℕ → Option ℕ
number_full b g = map (λ x. x.number) (group_named b g)

-- the access group that answers for a name
abbrev pub group_for : List ℕ → List ℕ → Option (List ℕ)
group_for b g = answering (name (view b) access_groups) g ((view b).records access_groups)

abbrev pub FindsAnswering : List ℕ → List ℕ → Index → Type 0
FindsAnswering b g r = Finds ((view b).records access_groups) (group_for b g) r

-- the first input of the i-th access group that has the letter
abbrev pub FindsInput : List ℕ → ℕ → ℕ → Index → Type 0
FindsInput b i letter r =
    Finds
    ((view b).records inputs)
    (first (λ w. eqb (letter_field w) letter) (part (inputs_run (row (view b) access_groups i)) ((view b).records inputs)))
    r
