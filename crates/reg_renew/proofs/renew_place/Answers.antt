use mathlib.Core.Path.{sym, ap, ◌∙◌}
use Prim.Native.Nat.{ℕ, ◌+◌, ◌*◌}
use native.Mathlib.Numerals.{add-one}
use native.Mathlib.Omega.{arith}
use Rattle.reg_renew.specs.laws.Renew.{not_renewed, place_renewed}
use Rattle.reg_kept.specs.laws.Kept.{group_low}
use Rattle.spec_rule.specs.Number.{decision_number, decision_from}
use Rattle.spec_register.specs.Right.{differ}
use Rattle.spec_rule.specs.Kept.{bit}
use Rattle.reg_renew.proofs.renew_place.Goals as goal

pub overflow_add-group : goal.overflow_add-group
overflow_add-group c = omega (arith, group_low c.args.table.now c.args.group c.requires.stored.0)

pub returns-then-from-group : goal.returns-then-from-group
returns-then-from-group c = let a = c.args in not_renewed a.table.now a.group a.outcomes.now a.places.now a.p (λ e. c.if-from-group.true (c.from.ensures ∙ c.number.ensures ∙ e ∙ sym (add-one a.group)))

pub returns : goal.returns
returns c = let a = c.args in place_renewed a.table.now a.group a.outcomes.now a.places.now a.p {at = a.p * 448 + 187} c.requires.placed (sym (c.from.ensures ∙ c.number.ensures) ∙ c.if-from-group.false ∙ add-one a.group) (omega arith) (c.number-after.ensures ∙ ap decision_number c.kept_decision.ensures) (omega arith) (c.changed.ensures ∙ ap (λ (n : ℕ). bit (differ (decision_from n) (decision_from c.number-after.result))) c.right-before.ensures)
