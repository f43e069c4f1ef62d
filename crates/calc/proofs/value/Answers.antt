use Rattle.calc_truth.specs.laws.Answers.{value_stopped, value_good}
use Rattle.calc.proofs.value.Goals as goal

pub returns-in-Some-lowest_bad : goal.returns-in-Some-lowest_bad
returns-in-Some-lowest_bad c = let k = c.inputs_of-inputs.ensures in
    value_stopped c.args.rs c.args.s.now k.0 k.1 c.in-Some.ensures c.in-Some-lowest_bad.ensures

pub returns-in-None : goal.returns-in-None
returns-in-None c = let k = c.inputs_of-inputs.ensures in
    value_good c.args.rs c.args.s.now k.0 k.1 c.in-Some.ensures c.in-None.ensures c.if_finite.ensures
