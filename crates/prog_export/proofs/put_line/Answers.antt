use Rattle.std.proofs.Common.{rules}
use Rattle.prog_text.specs.laws.Put.{from_start}
use Rattle.prog_export.proofs.put_line.Goals as goal

pub returns : goal.returns
returns c = from_start c.put.ensures.written c.new-w.ensures.bytes c.new-w.ensures.start (search rules)
