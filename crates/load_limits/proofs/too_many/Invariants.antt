use Rattle.load_limits.specs.laws.Count.{Counting}
use Rattle.load_limits.proofs.too_many.Given as goal

abbrev pub invariant-loop-i : goal.invariant-loop-i
invariant-loop-i l = Counting l.t.text.now l.t.list.now l.counts l.i
