use Rattle.std.proofs.Common.{refl, ap, ◌∙◌, arith}
use Rattle.spec_calc.specs.Value.{heard, good}
use Rattle.calc_inputs.specs.laws.Filled.{filled_none, filled_more, filled_all}
use Rattle.reg_inputs.specs.laws.Inputs.{at, many}
use Rattle.reg_inputs.proofs.inputs_at.Goals as goal

pub loop-i-init : goal.loop-i-init
loop-i-init c = filled_none _ _ _ refl refl

pub loop-i-preserved : goal.loop-i-preserved
loop-i-preserved c = let a = c.args in
    let e = at a.states.now a.values.now a.from c.loop-i.i (omega arith) in
    filled_more _ _ _ _ c.loop-i.invariant (omega arith) (c.input_at-value.ensures.0 ∙ ap heard e) (c.input_at-value.ensures.1 ∙ ap good e)

pub returns : goal.returns
returns c = let a = c.args in
    filled_all _ _ _ _ (many a.states.now a.values.now a.from) c.loop-i.invariant (omega arith)
