use Rattle.load_elements.specs.Reads.{left, Begun}
use Rattle.load_blocks.specs.Blocks.{nested_elements}
use Rattle.load_blocks.proofs.+nested.Given as goal

abbrev pub decreases-nested : goal.decreases-nested
decreases-nested l = left l.p.now

abbrev pub invariant-loop-p : goal.invariant-loop-p
invariant-loop-p l = Begun 0 nested_elements nested_elements l.initial.p l.p

abbrev pub decreases-loop-p : goal.decreases-loop-p
decreases-loop-p l = left l.p
