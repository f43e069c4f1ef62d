use Rattle.std.proofs.Common.{[], ◌∷◌, ◌+◌, ◌*◌, ◌≤◌}
use Rattle.table_fields.specs.Field.{section}
use Rattle.table_runs.specs.laws.Follow.{Followed}
use Rattle.spec_table.specs.View.{view}
use Rattle.spec_table.specs.Policy.{row}
use Rattle.spec_table.specs.Check.{run_at}
use Rattle.table_follow.proofs.record_follows.Given as goal

abbrev pub invariant-loop-j : goal.invariant-loop-j
invariant-loop-j l = (l.at ≤ l.from + l.j-index * 65535) × Followed (λ j. run_at j (row (view l.b) (section l.s) l.i) ∷ []) 0 l.starts l.from l.j-index l.at
