-- What is asked of each record by itself.
use Rattle.std.specs.Prelude.{◌≡◌, Bool, true, ◌&&◌, ◌||◌, List, ℕ, ◌<◌, eqb, leb, ltb, length}
use Rattle.spec_lists.specs.Select.{all}
use Rattle.spec_token.specs.Word.{greatest_letter}
use Rattle.spec_file.specs.Limit.{Section, user_groups, host_groups, members, access_groups, inputs, rules, references, longest_name}
use Rattle.spec_table.specs.Layout.{Content}
use Rattle.spec_table.specs.View.{view}
use Rattle.spec_table.specs.Check.{string_fits, name_run, letter_field, number_field, undefined_number, sections_stand, rule_stands}

-- bytes whose sections stand have a rule i
pub record HasRule (b : List ℕ) (i : ℕ) : Type 0 where
  pub stand : sections_stand b ≡ true
  pub row : i < length ((view b).records rules)

abbrev pub name_stands : Content → Section → List ℕ → Bool
name_stands c s row = string_fits c longest_name (name_run s row)

abbrev pub record_stands : Content → Section → List ℕ → Bool
record_stands c user_groups row = name_stands c user_groups row
record_stands c host_groups row = name_stands c host_groups row
record_stands c members row = name_stands c members row
record_stands c access_groups row = name_stands c access_groups row
record_stands c inputs row = name_stands c inputs row && leb (letter_field row) greatest_letter
record_stands c rules row = rule_stands c row
record_stands c references row = name_stands c references row

abbrev pub section_stands : Content → Section → Bool
section_stands c s = all (record_stands c s) (c.records s)

-- a reference's number is undefined or one of n groups
abbrev pub number_stands : ℕ → List ℕ → Bool
number_stands n row = eqb (number_field row) undefined_number || ltb (number_field row) n
