use Rattle.text_head.proofs.put_log.Goals as goal

pub returns-else-trap : goal.returns-else-trap
returns-else-trap c = rw c.if-trap.false c.put-else-trap.ensures
