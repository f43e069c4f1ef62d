use Rattle.std.proofs.Common.{[], ◌∷◌, ◌+◌, arith}
use Rattle.table_fields.specs.Field.{section}
use Rattle.table_runs.specs.laws.Follow.{followed_next, followed_gap, followed_all, known_end}
use Rattle.spec_table.specs.View.{view}
use Rattle.spec_table.specs.Policy.{row}
use Rattle.spec_table.specs.Check.{run_at}
use Rattle.table_follow.proofs.record_follows.Goals as goal

pub returns-in_err-at : goal.returns-in_err-at
returns-in_err-at c = let a = c.args in rw c.from_residual.ensures (followed_gap (λ j. run_at j (row (view a.b.now) (section a.s) a.i) ∷ []) 0 a.starts.now a.from c.loop-j.j-index c.loop-j.at c.loop-j.invariant.1 (omega arith) (known_end c.in_err-at.was c.run_follows.ensures) (a.from + 131070))

pub loop-j-preserved : goal.loop-j-preserved
loop-j-preserved c = let a = c.args in let t = known_end c.in_ok-at.was c.run_follows.ensures in (omega (arith, t.small), followed_next (λ j. run_at j (row (view a.b.now) (section a.s) a.i) ∷ []) 0 a.starts.now a.from c.loop-j.j-index c.loop-j.at c.loop-j.invariant.1 (omega arith) t)

pub returns : goal.returns
returns c = let a = c.args in followed_all (λ j. run_at j (row (view a.b.now) (section a.s) a.i) ∷ []) 0 a.starts.now a.from c.loop-j.j-index c.loop-j.at c.loop-j.invariant.1 (omega arith) (a.from + 131070) (omega arith)
