-- The lines of warnings, from lists of their numbers and places.
use Rattle.std.specs.Prelude.{List, [], ◌∷◌, ◌++◌, ℕ}
use Rattle.prog_report.specs.Report.{warning_line}

-- the lines of warnings whose numbers and places stand in two lists
abbrev pub lines_by : List ℕ → List ℕ → List ℕ
lines_by [] ps = []
lines_by (n ∷ ns) [] = []
lines_by (n ∷ ns) (p ∷ ps) = warning_line n p ++ lines_by ns ps

-- the most bytes of a line: a number of 3 digits and a place of 5
abbrev pub longest_line : ℕ
longest_line = 21
