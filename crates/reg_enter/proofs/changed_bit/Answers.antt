use Rattle.spec_places.proofs.laws.Changed.{bit_on, bit_off}
use Rattle.spec_rule.specs.Number.{decision_from}
use Rattle.spec_register.specs.Right.{differ}
use mathlib.Core.Path.{sym, ◌∙◌}
use Rattle.reg_enter.proofs.changed_bit.Goals as goal

pub returns-then-differ : goal.returns-then-differ
returns-then-differ c = let a = c.args in bit_on (differ (decision_from a.before) (decision_from a.after)) a.p c.requires (sym c.differ.ensures ∙ c.if-differ.true)

pub returns-else-differ : goal.returns-else-differ
returns-else-differ c = let a = c.args in bit_off (differ (decision_from a.before) (decision_from a.after)) a.p (sym c.differ.ensures ∙ c.if-differ.false)
