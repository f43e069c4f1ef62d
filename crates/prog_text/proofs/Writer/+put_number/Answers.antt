use Rattle.prog_text.specs.laws.Digits.{put_digit, put_digits}
use Rattle.prog_text.proofs.Writer.+put_number.Goals as goal
use Rattle.prog_text.proofs.Writer.+put_number.Goals.{then-n-ge10, else-n-ge10}

pub returns-clause-written : goal.returns-clause-written
returns-clause-written t c =
    elim c.if-n-ge10.branch [
      | then-n-ge10 w ↦ put_digits c.args.n w.if-n-ge10.true w.put_number.ensures.written (rw w.self-is at c.put.ensures.written)
      | else-n-ge10 w ↦ put_digit c.args.n w.if-n-ge10.false (rw w.self-is at c.put.ensures.written)
    ]
