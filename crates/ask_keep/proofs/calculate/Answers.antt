use Rattle.std.proofs.Common.{◌+◌, ◌∙◌, ap, arith}
use Rattle.spec_rule.specs.Kept.{outcome_byte}
use Rattle.spec_rule.specs.Rule.{outcome}
use Rattle.ask_checked.specs.laws.Group.{rule_stored}
use Rattle.ask_kept.specs.laws.Kept.{rules_few, stores_turn, stores_done}
use Rattle.ask_keep.proofs.calculate.Goals as goal

pub calculation_outcome-outcome-requires : goal.calculation_outcome-outcome-requires
calculation_outcome-outcome-requires c =
    rule_stored c.args.table.now c.args.group c.requires (c.run-rules.result.start + c.loop-i.i) (omega (arith, c.len-i-end.ensures.value, c.run-rules.ensures.start, c.run-rules.ensures.end))

pub bounds-outcomes-i : goal.bounds-outcomes-i
bounds-outcomes-i c =
    omega (arith, rules_few c.args.table.now c.args.group c.requires, c.len-i-end.ensures.value, c.run-rules.ensures.start, c.run-rules.ensures.end)

pub loop-i-preserved : goal.loop-i-preserved
loop-i-preserved c = λ rs h.
    let a = c.args in
    stores_turn
    a.table.now
    a.group
    c.requires
    (λ r. outcome_byte (outcome rs r.calculation))
    c.loop-i.outcomes
    c.loop-i.i
    c.loop-i.i
    (omega (arith, c.len-i-end.ensures.value, c.run-rules.ensures.start, c.run-rules.ensures.end))
    (omega arith)
    (c.byte_of.ensures ∙ ap outcome_byte (rw c.run-rules.ensures.start at (c.calculation_outcome-outcome.ensures rs h)))
    (c.loop-i.invariant rs h)

pub returns : goal.returns
returns c = λ rs h.
    let a = c.args in
    stores_done
    a.table.now
    a.group
    c.requires
    (λ r. outcome_byte (outcome rs r.calculation))
    c.loop-i.outcomes
    c.loop-i.i
    c.loop-i.i
    (omega (arith, c.len-i-end.ensures.value, c.run-rules.ensures.start, c.run-rules.ensures.end))
    (c.loop-i.invariant rs h)
