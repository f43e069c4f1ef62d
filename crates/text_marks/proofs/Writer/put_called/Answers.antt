use Rattle.text_marks.specs.laws.Left.{wrote_both}
use Rattle.text_marks.proofs.Writer.put_called.Goals as goal

pub returns : goal.returns
returns c = wrote_both c.put.ensures (wrote_both c.put-2.ensures (wrote_both c.put_quoted.ensures c.put-3.ensures))
