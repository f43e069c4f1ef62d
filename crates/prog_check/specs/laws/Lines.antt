-- The lines of warnings are those of the two lists of their numbers and places.
use Rattle.std.specs.Prelude.{◌≡◌, refl, List, [], ◌∷◌, ◌++◌, map, ℕ}
use Rattle.std.proofs.Common.{ap}
use Rattle.spec_file.specs.Warning.{number, Warned}
use Rattle.prog_report.specs.Report.{warning_line}
use Rattle.prog_warnings.specs.Lines.{lines_by}
use Rattle.prog_check.specs.Checked.{warning_lines}

-- the two lists of some warnings
pub lines_of : (ws : List Warned) → lines_by (map (λ w. number w.warning) ws) (map (λ w. w.place) ws) ≡ warning_lines ws
lines_of [] = refl
lines_of (w ∷ ws) = ap (λ (l : List ℕ). warning_line (number w.warning) w.place ++ l) (lines_of ws)
