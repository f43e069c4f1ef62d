use Rattle.std.proofs.Common.{[], ◌+◌, ◌*◌, ◌≤◌}
use Rattle.table_fields.specs.Field.{section}
use Rattle.table_runs.specs.laws.Follow.{Followed}
use Rattle.table_runs.specs.Follow.{runs_in}
use Rattle.spec_table.specs.View.{view}
use Rattle.table_follow.proofs.runs_follow.Given as goal

abbrev pub invariant-loop-i : goal.invariant-loop-i
invariant-loop-i l = (l.at ≤ l.from + l.i * 131070) × Followed (runs_in l.starts) [] ((view l.b).records (section l.s)) l.from l.i l.at
