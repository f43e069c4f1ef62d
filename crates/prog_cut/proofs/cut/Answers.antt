use Rattle.std.proofs.Common.{arith, rules}
use Rattle.prog_text.specs.laws.Put.{put_put, from_start}
use Rattle.prog_cut.specs.laws.Cut.{cuts_line}
use Rattle.prog_cut.proofs.cut.Goals as goal

pub returns : goal.returns
returns c =
    cuts_line
    c.requires
    (let z = c.if-count-eq0.false in omega arith)
    (from_start (put_put c.refused_text.ensures.written c.put.ensures.written) c.new-w.ensures.bytes c.new-w.ensures.start (search rules))
