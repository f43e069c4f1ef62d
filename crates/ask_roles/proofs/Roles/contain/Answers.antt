use Rattle.std.proofs.Common.{sym, ◌∙◌}
use Rattle.spec_lists.specs.Text.{same}
use Rattle.spec_rule.proofs.laws.Walk.{any_off, any_on}
use Rattle.ask_roles.specs.laws.Lent.{role_on}
use Rattle.ask_roles.proofs.Roles.contain.Goals as goal

pub returns-then-equal : goal.returns-then-equal
returns-then-equal c =
    let on = role_on _ _ _ c.loop-n-test.true c.from.ensures c.min.ensures c.split_at.ensures.front c.split_at.ensures.back in
    sym (c.loop-n.invariant ∙ any_on (same c.args.name.now) on (sym c.equal.ensures ∙ c.if-equal.true))

pub loop-n-preserved : goal.loop-n-preserved
loop-n-preserved c =
    let on = role_on _ _ _ c.loop-n-test.true c.from.ensures c.min.ensures c.split_at.ensures.front c.split_at.ensures.back in
    c.loop-n.invariant ∙ any_off (same c.args.name.now) on (sym c.equal.ensures ∙ c.if-equal.false)
