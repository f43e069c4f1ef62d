use Rattle.std.proofs.Common.{◌≡◌, length}
use Rattle.prog_line.specs.laws.Readings.{never_heard, set_on}
use Rattle.prog_line.proofs.readings.Given as goal

abbrev pub invariant-loop-rest : goal.invariant-loop-rest
invariant-loop-rest l = set_on never_heard l.s ≡ set_on l.readings l.rest

abbrev pub decreases-loop-rest : goal.decreases-loop-rest
decreases-loop-rest l = length l.rest
