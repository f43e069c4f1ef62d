-- The names of a run of records, as a text lists them.
use Rattle.std.specs.Prelude.{◌≡◌, true, List, [], ◌∷◌, ◌++◌, map, ℕ, ◌-◌, ◌≤◌, length}
use Rattle.std.specs.declared.ops.Range.{Range}
use Rattle.spec_lists.specs.Text.{bytes}
use Rattle.spec_lists.specs.Select.{joined}
use Rattle.spec_lists.specs.Runs.{Run, part}
use Rattle.spec_file.specs.Limit.{Section}
use Rattle.spec_table.specs.Layout.{Content}
use Rattle.spec_table.specs.View.{view}
use Rattle.spec_table.specs.Check.{is_table}
use Rattle.spec_table.specs.Policy.{name}
use Rattle.spec_text.specs.Lines.{quoted, quoted_list}

-- the records whose numbers are in a range
abbrev pub run : Range ℕ → Run
run r = record { first = r.start; count = r.end - r.start }

-- the bytes are a table, and the records lie in their section
pub record RunStored (b : List ℕ) (s : Section) (r : Range ℕ) : Type 0 where
  pub table : is_table b ≡ true
  pub inside : r.end ≤ length ((view b).records s)

-- the names of a run of records
abbrev pub names : Content → Section → Run → List (List ℕ)
names c s r = map (name c s) (part r (c.records s))

-- names parted by commas
abbrev pub listed : List (List ℕ) → List ℕ
listed [] = []
listed (s ∷ ss) = quoted_list s ss

-- names with a comma before each
abbrev pub others : List (List ℕ) → List ℕ
others ss = joined (map (λ t. bytes "," ++ quoted t) ss)
