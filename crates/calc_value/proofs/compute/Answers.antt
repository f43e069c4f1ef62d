use Rattle.std.proofs.Common.{arith}
use Rattle.calc_value.specs.laws.Whole.{computed_long, computed_bad, computed_end, computed_more}
use Rattle.calc_value.proofs.compute.Goals as goal

pub returns-then-s-gt-LONGEST : goal.returns-then-s-gt-LONGEST
returns-then-s-gt-LONGEST c = computed_long c.args.vs.now c.args.s.now (omega arith)

pub returns-in_err-v : goal.returns-in_err-v
returns-in_err-v c = rw c.from_residual.ensures (computed_bad c.args.vs.now c.args.s.now (omega arith) c.in_err-v.ensures)

pub returns-then-is_end : goal.returns-then-is_end
returns-then-is_end c = let e = c.is_end in
    computed_end c.args.vs.now c.args.s.now (omega arith) c.in_ok-v.ensures e.result e.ensures c.if-is_end.true

pub returns-else-is_end : goal.returns-else-is_end
returns-else-is_end c = let e = c.is_end in
    computed_more c.args.vs.now c.args.s.now (omega arith) c.in_ok-v.ensures e.result e.ensures c.if-is_end.false
