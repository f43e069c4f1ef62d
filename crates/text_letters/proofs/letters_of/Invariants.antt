use Rattle.text_letters.specs.laws.Letters.{Gathers}
use Rattle.text_letters.proofs.letters_of.Given as goal

abbrev pub invariant-loop-i : goal.invariant-loop-i
invariant-loop-i l = Gathers l.table l.group l.given l.i-iterator
