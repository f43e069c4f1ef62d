-- What the checker prints for a file. 01, "Two programs".
use Rattle.std.specs.Prelude.{List, [], ◌∷◌, ◌++◌, ℕ}
use Rattle.spec_file.specs.Warning.{number, Warned, warnings}
use Rattle.spec_file.specs.Load.{Verdict, refuse, accept, verdict}
use Rattle.prog_report.specs.Report.{refusal_line, warning_line}

-- 01: "a line each"
abbrev pub warning_lines : List Warned → List ℕ
warning_lines [] = []
warning_lines (w ∷ ws) = warning_line (number w.warning) w.place ++ warning_lines ws

-- 01: "prints nothing for a clean file, else `refusal N at P` or the warnings by place"
abbrev pub told : Verdict → List ℕ
told (refuse k p) = refusal_line k p
told (accept xs) = warning_lines (warnings xs)

unfoldable pub checked : List ℕ → List ℕ
checked s = told (verdict s)
