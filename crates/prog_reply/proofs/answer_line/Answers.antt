use Rattle.std.proofs.Common.{ap, sym, ◌∙◌}
use Rattle.prog_text.specs.laws.Put.{put_as}
use Rattle.prog_words.specs.Words.{answer_text}
use Rattle.prog_question.specs.Asked.{asked}
use Rattle.prog_reply.specs.Reply.{answered}
use Rattle.prog_reply.proofs.answer_line.Goals as goal

pub returns-in-None-clause-written : goal.returns-in-None-clause-written
returns-in-None-clause-written c = put_as (ap (answered c.args.table.now) (c.read_question.ensures ∙ ap asked c.in-None.is)) c.refused_text.ensures.written

pub returns-in-Some-clause-written : goal.returns-in-Some-clause-written
returns-in-Some-clause-written c =
    put_as
    (ap (answered c.args.table.now) (c.read_question.ensures ∙ ap asked c.in-Some.is) ∙ sym (ap answer_text c.decide_checked-answer.ensures))
    c.answer_text.ensures.written
