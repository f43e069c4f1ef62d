use Rattle.std.proofs.Common.{length, ◌-◌}
use Rattle.load_scan.specs.laws.Filled.{Filled}
use Rattle.load_scan.proofs.scan.Given as goal

abbrev pub invariant-loop-at : goal.invariant-loop-at
invariant-loop-at l = Filled l.s l.tokens l.at l.count

abbrev pub decreases-loop-at : goal.decreases-loop-at
decreases-loop-at l = length l.s - l.at
