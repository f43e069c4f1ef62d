use Rattle.std.proofs.Common.{arith, rules, refl}
use Rattle.calc_inputs.specs.laws.Filled.{filled_none, filled_more, filled_all}
use Rattle.calc_inputs.proofs.inputs_of.Goals as goal

pub loop-i-init : goal.loop-i-init
loop-i-init c = filled_none c.args.rs _ _ refl refl

pub loop-i-preserved : goal.loop-i-preserved
loop-i-preserved c = filled_more c.args.rs c.loop-i.inputs.0 c.loop-i.inputs.1.0 c.loop-i.i c.loop-i.invariant (omega arith) c.value_of.ensures c.is_good.ensures

pub returns : goal.returns
returns c = filled_all c.args.rs c.loop-i.inputs.0 c.loop-i.inputs.1.0 c.loop-i.i (search rules) c.loop-i.invariant c.loop-i-test.false
