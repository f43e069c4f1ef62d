use Rattle.load_elements.specs.Reads.{left}
use Rattle.load_parse.specs.Reads.{Items}
use Rattle.load_parse.proofs.file.Given as goal

abbrev pub invariant-loop-p : goal.invariant-loop-p
invariant-loop-p l = Items l.initial.p l.p

abbrev pub decreases-loop-p : goal.decreases-loop-p
decreases-loop-p l = left l.p
