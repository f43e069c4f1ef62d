-- The records of a table: what the functions that read them ask for and promise.
use Rattle.std.specs.Prelude.{◌≡◌, true, List, ℕ, ◌<◌, length}
use Rattle.spec_file.specs.Limit.{Section}
use Rattle.spec_table.specs.View.{view}
use Rattle.spec_table.specs.Check.{is_table}
use Rattle.table_fields.specs.declared.Section as coded
use Rattle.table_fields.specs.declared.Section.TheVariants.{UserGroups, HostGroups, Members, AccessGroups, Inputs, Rules, References}
pub use Rattle.table_fields.specs.Field.{section, word_of}

-- the word of a record at which its name begins
abbrev pub name_word : coded.Section → ℕ
name_word UserGroups = 0
name_word HostGroups = 0
name_word Members = 0
name_word AccessGroups = 0
name_word Inputs = 1
name_word Rules = 5
name_word References = 1

-- the bytes are a table and have an i-th record in a section
pub record Stored (b : List ℕ) (s : Section) (i : ℕ) : Type 0 where
  pub table : is_table b ≡ true
  pub inside : i < length ((view b).records s)
