use Rattle.prog_reply.specs.Reply.{reply}
use Rattle.prog_text.specs.laws.Put.{put_put}
use Rattle.prog_reply.proofs.reply.Goals as goal

pub returns-clause-written : goal.returns-clause-written
unfolding reply
returns-clause-written c = put_put c.answer_line.ensures.written c.put.ensures.written
