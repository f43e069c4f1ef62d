use Rattle.std.proofs.Common.{length, ◌-◌}
use denote.Param.Always.{always_mut}
use Rattle.vec_words.proofs.for_each_line.Given as goal

abbrev pub invariant-loop-at : goal.invariant-loop-at
invariant-loop-at g l = always_mut g.F.FnMut l.initial.f → always_mut g.F.FnMut l.f

abbrev pub decreases-loop-at : goal.decreases-loop-at
decreases-loop-at g l = length l.s - l.at
