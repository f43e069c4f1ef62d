use Rattle.std.proofs.Common.{sym, ap, ◌∙◌}
use Rattle.spec_rule.specs.declared.Decision.{Decision}
use Rattle.spec_rule.specs.Rule.{rank}
use Rattle.spec_rule.proofs.laws.Order.{order_by_rank}
use Rattle.spec_rule.proofs.laws.Decision.{rule_idle}
use Rattle.std.specs.Prelude.{leb}
use Rattle.ask_grant.specs.Flags.{flagged}
use Rattle.ask_rule.specs.Rules.{rule_at, asked_by}
use Rattle.ask_given.proofs.with_rule.Goals as goal

pub returns-then-le : goal.returns-then-le
returns-then-le c = λ rs h e. rule_idle (asked_by c.args.client.now rs) (rule_at c.args.table.now c.args.rule) c.args.earlier e (ap (λ (d : Decision). leb (rank d.access) (rank c.args.earlier.access)) (sym (c.granted_by-offered.ensures ∙ ap flagged c.field.ensures.is)) ∙ sym (order_by_rank c.granted_by-offered.result.access c.args.earlier.access) ∙ sym c.le.ensures ∙ c.if-le.true)
