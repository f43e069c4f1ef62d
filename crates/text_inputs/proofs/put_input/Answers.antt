use native.Mathlib.Omega.{arith}
use Rattle.text_marks.specs.laws.Left.{wrote_both}
use Rattle.text_inputs.specs.laws.Inputs.{letter_low}
use Rattle.text_inputs.proofs.put_input.Goals as goal

pub overflow_cast-word : goal.overflow_cast-word
overflow_cast-word c = omega (arith, letter_low c.args.table.now c.requires.0.table c.args.i, c.field-letter.ensures.is)

pub overflow_add-word : goal.overflow_add-word
overflow_add-word c = omega (arith, letter_low c.args.table.now c.requires.0.table c.args.i, c.field-letter.ensures.is)

pub returns : goal.returns
returns c = wrote_both (rw (c.name_of.ensures, c.field-letter.ensures.is) at c.put_called.ensures) c.put.ensures
