use Rattle.std.proofs.Common.{ap}
use Rattle.prog_text.specs.Text.{digits_in, decimal_digits}
use Rattle.prog_text.specs.laws.Put.{put_put, put_as}
use Rattle.prog_words.specs.Words.{answer_text}
use Rattle.prog_answer.proofs.answer_text.Goals as goal

pub returns-in-Answered-clause-written : goal.returns-in-Answered-clause-written
unfolding answer_text
returns-in-Answered-clause-written c =
    put_as
    (ap answer_text c.in-Answered.is)
    (put_put c.put_access.ensures.written (put_put c.put_trap.ensures.written c.put_letter.ensures.written))

pub returns-in-NotTable-clause-written : goal.returns-in-NotTable-clause-written
unfolding answer_text decimal_digits digits_in
returns-in-NotTable-clause-written c = put_as (ap answer_text c.in-NotTable.is) c.put.ensures.written

pub returns-in-BadLevel-clause-written : goal.returns-in-BadLevel-clause-written
unfolding answer_text decimal_digits digits_in
returns-in-BadLevel-clause-written c = put_as (ap answer_text c.in-BadLevel.is) c.put-in-BadLevel.ensures.written

pub returns-in-BadRoles-clause-written : goal.returns-in-BadRoles-clause-written
unfolding answer_text decimal_digits digits_in
returns-in-BadRoles-clause-written c = put_as (ap answer_text c.in-BadRoles.is) c.put-in-BadRoles.ensures.written
