use Rattle.spec_calc.specs.States.{readings}
use Rattle.calc_inputs.specs.laws.Filled.{FilledTo}
use Rattle.reg_inputs.proofs.inputs_at.Given as goal

abbrev pub invariant-loop-i : goal.invariant-loop-i
invariant-loop-i l = FilledTo (readings l.states l.values l.from) l.heard l.good l.i
