use Rattle.calc_inputs.specs.laws.Filled.{FilledTo}
use Rattle.calc_inputs.proofs.inputs_of.Given as goal

abbrev pub invariant-loop-i : goal.invariant-loop-i
invariant-loop-i l = FilledTo l.r-items l.inputs.0 l.inputs.1.0 l.i
