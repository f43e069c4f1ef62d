use Rattle.std.proofs.Common.{◌∙◌, arith}
use Rattle.ask_checked.specs.laws.Group.{rule_stored}
use Rattle.ask_checked.specs.laws.Decide.{none_tried, one_tried, all_tried}
use Rattle.ask_checked.proofs.decision_of_group.Goals as goal

pub loop-rule-init : goal.loop-rule-init
loop-rule-init c = rw c.run-rules.ensures.start (none_tried c.args.table.now c.args.group c.args.client c.args.inputs.now c.nothing_given-so_far.ensures)

pub with_rule-so_far-requires : goal.with_rule-so_far-requires
with_rule-so_far-requires c = rule_stored c.args.table.now c.args.group c.requires c.loop-rule.rule (omega (arith, c.run-rules.ensures.end))

pub loop-rule-preserved : goal.loop-rule-preserved
loop-rule-preserved c =
    one_tried
    c.args.table.now
    c.args.group
    c.args.client
    c.args.inputs.now
    c.requires
    c.loop-rule.invariant
    (omega (arith, c.run-rules.ensures.start))
    (omega (arith, c.run-rules.ensures.end))
    c.with_rule-so_far.ensures

pub returns : goal.returns
returns c = λ rs h. c.settled.ensures ∙
    all_tried
    c.args.table.now
    c.args.group
    c.args.client
    c.args.inputs.now
    c.requires
    c.loop-rule.invariant
    (omega (arith, c.run-rules.ensures.start))
    (omega (arith, c.run-rules.ensures.end))
    rs
    h
