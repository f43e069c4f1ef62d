-- The words of a table's records.
use Rattle.std.specs.Prelude.{◌≡◌, true, List, ℕ, ◌<◌, length, get_or}
use Rattle.spec_file.specs.Limit.{Section, user_groups, host_groups, members, access_groups, inputs, rules, references}
use Rattle.spec_table.specs.Layout.{width}
use Rattle.spec_table.specs.View.{view}
use Rattle.spec_table.specs.Policy.{row}
use Rattle.spec_table.specs.Check.{sections_stand}
use Rattle.table_fields.specs.declared.Section as coded
use Rattle.table_fields.specs.declared.Section.TheVariants.{UserGroups, HostGroups, Members, AccessGroups, Inputs, Rules, References}

abbrev pub section : coded.Section → Section
section UserGroups = user_groups
section HostGroups = host_groups
section Members = members
section AccessGroups = access_groups
section Inputs = inputs
section Rules = rules
section References = references

-- what reading the word v gives: the word, and that it is one
pub record Word (v r : ℕ) : Type 0 where
  pub is : r ≡ v
  pub small : r < 65536

-- the j-th word of a record
abbrev pub word_of : List ℕ → Section → ℕ → ℕ → ℕ
word_of b s i j = get_or (row (view b) s i) j 0

-- bytes whose sections stand have a j-th word in the i-th record of a section
pub record HasField (b : List ℕ) (s : Section) (i j : ℕ) : Type 0 where
  pub stand : sections_stand b ≡ true
  pub row : i < length ((view b).records s)
  pub field : j < width s
