use Rattle.std.proofs.Common.{◌+◌, arith}
use Rattle.ask_checked.specs.laws.Group.{rule_stored}
use Rattle.ask_kept.specs.laws.Kept.{rules_few, decision_turn}
use Rattle.ask_kept.proofs.kept_decision.Goals as goal

pub bounds-kept-at : goal.bounds-kept-at
bounds-kept-at c =
    omega (arith, rules_few c.args.table.now c.args.group c.requires.0, c.len-i-end.ensures.value, c.run-rules.ensures.start, c.run-rules.ensures.end)

pub bounds-outcomes-i : goal.bounds-outcomes-i
bounds-outcomes-i c =
    omega (arith, rules_few c.args.table.now c.args.group c.requires.0, c.len-i-end.ensures.value, c.run-rules.ensures.start, c.run-rules.ensures.end)

pub with_kept-so_far-requires : goal.with_kept-so_far-requires
with_kept-so_far-requires c =
    rule_stored c.args.table.now c.args.group c.requires.0 (c.run-rules.result.start + c.loop-i.i) (omega (arith, c.len-i-end.ensures.value, c.run-rules.ensures.start, c.run-rules.ensures.end))

pub loop-i-preserved : goal.loop-i-preserved
loop-i-preserved c =
    let a = c.args in
    decision_turn
    a.table.now
    a.group
    c.requires.0
    a.kept.now
    a.at
    a.outcomes.now
    c.loop-i.i
    c.loop-i.so_far
    (omega (arith, c.len-i-end.ensures.value, c.run-rules.ensures.start, c.run-rules.ensures.end))
    c.requires.1
    (omega (arith, c.requires.2, rules_few a.table.now a.group c.requires.0, c.len-i-end.ensures.value, c.run-rules.ensures.start, c.run-rules.ensures.end))
    (rw c.run-rules.ensures.start at (c.with_kept-so_far.ensures c.loop-i.invariant.0))
    c.loop-i.invariant.1
