use Rattle.std.proofs.Common.{[], ◌+◌, arith}
use Rattle.table_fields.specs.Field.{section}
use Rattle.table_runs.specs.Follow.{runs_in, most_added}
use Rattle.table_runs.specs.laws.Follow.{followed_next, followed_gap, followed_all, known_end}
use Rattle.spec_table.specs.View.{view}
use Rattle.spec_table.proofs.laws.Fields.{view_count}
use Rattle.table_follow.proofs.runs_follow.Goals as goal

pub record_follows-requires-clause-inside : goal.record_follows-requires-clause-inside
record_follows-requires-clause-inside c = omega (arith, c.section_count-i-end.ensures.is, view_count c.args.b.now (section c.args.s))

pub returns-in_err-at : goal.returns-in_err-at
returns-in_err-at c = let a = c.args in let l = view_count a.b.now (section a.s) in rw c.from_residual.ensures (followed_gap (runs_in a.starts.now) [] ((view a.b.now).records (section a.s)) a.from c.loop-i.i c.loop-i.at c.loop-i.invariant.1 (omega (arith, c.section_count-i-end.ensures.is)) (known_end c.in_err-at.was c.record_follows.ensures) (a.from + most_added))

pub loop-i-preserved : goal.loop-i-preserved
loop-i-preserved c = let a = c.args in let l = view_count a.b.now (section a.s) in let t = known_end c.in_ok-at.was c.record_follows.ensures in (omega (arith, t.small), followed_next (runs_in a.starts.now) [] ((view a.b.now).records (section a.s)) a.from c.loop-i.i c.loop-i.at c.loop-i.invariant.1 (omega (arith, c.section_count-i-end.ensures.is)) t)

pub returns : goal.returns
returns c = let a = c.args in let l = view_count a.b.now (section a.s) in followed_all (runs_in a.starts.now) [] ((view a.b.now).records (section a.s)) a.from c.loop-i.i c.loop-i.at c.loop-i.invariant.1 (omega (arith, c.section_count-i-end.ensures.is)) (a.from + most_added) (omega (arith, c.section_count-i-end.ensures.small))
