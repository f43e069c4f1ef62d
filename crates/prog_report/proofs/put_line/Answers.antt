use Rattle.prog_text.specs.laws.Put.{put_put}
use Rattle.prog_report.specs.Report.{placed}
use Rattle.prog_report.proofs.put_line.Goals as goal

pub returns-clause-written : goal.returns-clause-written
unfolding placed
returns-clause-written c =
    put_put
    (put_put c.put.ensures.written (put_put c.put_number.ensures.written (put_put c.put-2.ensures.written c.put_number-2.ensures.written)))
    c.put-3.ensures.written
