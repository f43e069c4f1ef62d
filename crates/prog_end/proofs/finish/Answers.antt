use Rattle.std.proofs.Common.{sym, ap, ◌∙◌, arith, rules}
use mathlib.Core.List.{append-nil}
use Rattle.prog_text.specs.laws.Put.{put_as, from_start}
use Rattle.prog_reply.specs.Reply.{reply}
use Rattle.prog_replies.specs.Input.{replies}
use Rattle.prog_replies.specs.laws.Begun.{reply_begun, line_begun}
use Rattle.prog_end.specs.laws.End.{finishes}
use Rattle.prog_end.proofs.finish.Goals as goal

pub returns : goal.returns
unfolding replies
returns c =
    finishes
    c.requires.2
    c.requires.1
    (λ h a.
    put_as
    (ap
    (replies c.args.table.now)
    (line_begun
    c.args.buffer.now
    h
    c.args.count
    (let z = c.if-count-eq0.false in omega arith)
    (let z = c.requires.1.within in let y = c.requires.1.size in omega arith)
    a)
    ∙ append-nil (reply c.args.table.now h)
    ∙ sym (reply_begun c.args.table.now a))
    (from_start c.reply.ensures.written c.new-w.ensures.bytes c.new-w.ensures.start (search rules)))
