use mathlib.Core.Path.{sym, ◌∙◌}
use Rattle.text_head.proofs.put_unknown.Goals as goal

pub returns-then-is_set : goal.returns-then-is_set
returns-then-is_set c = rw (sym c.is_set.ensures ∙ c.if-is_set.true) c.put.ensures
