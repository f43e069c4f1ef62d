use Rattle.std.proofs.Common.{length, ◌≤◌}
use Rattle.vec_decide.proofs.roles.Given as goal

abbrev pub invariant-loop-role : goal.invariant-loop-role
invariant-loop-role l = (l.end ≤ length l.pool) × (l.n ≤ length l.lengths)
