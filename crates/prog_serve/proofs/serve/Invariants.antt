use Rattle.prog_replies.specs.Pieces.{State}
use Rattle.prog_serve.proofs.serve.Given as goal

abbrev pub invariant-loop-round : goal.invariant-loop-round
invariant-loop-round g l = State l.held.out.now l.held.at
