use Rattle.std.proofs.Common.{sym, ◌∙◌, arith, rules}
use Rattle.prog_text.specs.laws.Put.{put_length, put_as}
use Rattle.prog_replies.specs.laws.Begun.{begun_more, reply_begun}
use Rattle.prog_replies.specs.laws.Steps.{line_ends, line_goes_on}
use Rattle.prog_replies.proofs.take_line.Goals as goal

pub returns-then-end-piece-clause-held_room : goal.returns-then-end-piece-clause-held_room
returns-then-end-piece-clause-held_room c = put_length c.put.ensures.written ∙ c.requires.2

pub returns-then-end-piece-clause-answered : goal.returns-then-end-piece-clause-answered
returns-then-end-piece-clause-answered c = λ h out₀ a.
    line_goes_on
    c.args.table.now
    h
    c.args.piece.now
    out₀
    c.args.at
    c.args.end
    _
    _
    _
    _
    _
    _
    c.requires.1
    c.if-end-piece.true
    a
    (begun_more c.requires.2 a.begun c.requires.1.line c.put.ensures.written)

pub returns-clause-held_room : goal.returns-clause-held_room
returns-clause-held_room c = let l = put_length c.put.ensures.written in let k = c.requires.2 in search rules

pub returns-clause-answered : goal.returns-clause-answered
returns-clause-answered c = λ h out₀ a.
    line_ends
    c.args.table.now
    h
    c.args.piece.now
    out₀
    c.args.at
    c.args.end
    _
    _
    _
    _
    _
    _
    _
    c.requires.1
    (let z = c.requires.1.within in let y = c.if-end-piece.false in omega arith)
    a
    (put_as (sym (reply_begun c.args.table.now (begun_more c.requires.2 a.begun c.requires.1.line c.put.ensures.written))) c.reply.ensures.written)
