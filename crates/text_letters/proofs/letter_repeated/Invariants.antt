use Rattle.text_letters.specs.laws.Letters.{Single}
use Rattle.text_letters.proofs.letter_repeated.Given as goal

abbrev pub invariant-loop-i : goal.invariant-loop-i
invariant-loop-i l = Single l.table l.group l.seen l.i-iterator
