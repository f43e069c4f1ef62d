use mathlib.Core.Path.{◌∙◌, ap}
use Rattle.api_numbers.specs.Numbers.{answer_number}
use Rattle.abi_ask.proofs.hrazvanut_abi_decide_letter_checked.Goals as goal

pub returns : goal.returns
returns c = c.answer_number.ensures ∙ ap answer_number (rw c.readings-rs.ensures at c.decide_checked-answer.ensures)
