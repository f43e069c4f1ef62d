use Rattle.load_word.specs.laws.Digits.{digits_end}
use Rattle.load_word.proofs.all_digits.Goals as goal

pub returns-then-at-e : goal.returns-then-at-e
returns-then-at-e c = digits_end c.run_end-e.ensures c.if-at-e.true
