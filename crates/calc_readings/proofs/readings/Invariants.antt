use Rattle.calc_readings.specs.laws.Readings.{StandTo}
use Rattle.calc_readings.proofs.readings.Given as goal

abbrev pub invariant-loop-i : goal.invariant-loop-i
invariant-loop-i l = StandTo l.fn.states l.fn.values l.fn.from l.r-items l.i
