use Rattle.std.proofs.Common.{◌≡◌}
use Rattle.prog_input.proofs.read_whole.Given as goal

abbrev pub invariant-loop-round : goal.invariant-loop-round
invariant-loop-round g l = l.kept.out.ghost_name ≡ l.initial.kept.out.ghost_name
