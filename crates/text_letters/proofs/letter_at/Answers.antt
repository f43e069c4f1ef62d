use Rattle.text_letters.specs.laws.Letters.{letter_low}
use native.Mathlib.Omega.{arith}
use Rattle.text_letters.proofs.letter_at.Goals as goal

pub returns : goal.returns
returns c = (c.field.ensures.is, omega (arith, letter_low c.args.table.now c.args.i c.requires, c.field.ensures.is))
