-- The names of a table's records; a rule's is its calculation.
use Rattle.std.specs.Prelude.{List, map, ℕ}
use Rattle.spec_file.specs.Limit.{Section}
use Rattle.spec_table.specs.View.{view}
use Rattle.spec_table.specs.Policy.{name, row}

-- the names of a section, in its order
abbrev pub names : List ℕ → Section → List (List ℕ)
names b s = map (name (view b) s) ((view b).records s)

-- the name of the i-th record of a section
abbrev pub name_at : List ℕ → Section → ℕ → List ℕ
name_at b s i = name (view b) s (row (view b) s i)
