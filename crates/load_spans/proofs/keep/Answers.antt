use mathlib.Core.Path.{sym}
use lib.Seq.{set_out}
use Rattle.load_spans.proofs.keep.Goals as goal

pub returns-else-k-names : goal.returns-else-k-names
returns-else-k-names c = sym (set_out _ _ _ c.if-k-names.false)
