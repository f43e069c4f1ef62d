use Rattle.text_letters.specs.laws.Calculation.{judged}
use Rattle.text_letters.proofs.letter_missing.Goals as goal

pub returns : goal.returns
returns c = judged c.args.table.now c.args.rule c.requires c.args.given.now c.name_of.ensures c.letters_given.ensures
