use Rattle.spec_token.proofs.laws.Spans.{Passing}
use Rattle.load_word.specs.Class.{belongs}
use Rattle.load_word.proofs.run_end.Given as goal

abbrev pub invariant-loop-i : goal.invariant-loop-i
invariant-loop-i l = Passing (belongs l.class) l.s l.from l.i
