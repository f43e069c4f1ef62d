use mathlib.Core.Path.{refl, sym, ◌∙◌}
use native.Mathlib.Omega.{arith}
use borrow.Author.Tests.{not-true, not-false}
use Rattle.spec_rule.specs.Question.{lent_question}
use Rattle.ask_roles.specs.laws.Lent.{lent_cut}
use Rattle.ask_checked.specs.laws.Decide.{decide_bad, decide_roles, decide_none, decide_by}
use Rattle.table_read.specs.laws.Search.{answering_stored}
use Rattle.ask_checked.proofs.decide_checked.Goals as goal

pub returns-then-level-gt1 : goal.returns-then-level-gt1
returns-then-level-gt1 c = sym (decide_bad c.args.table.now (lent_question c.args.group.now c.args.user.now c.args.host.now c.args.roles.now c.args.lengths.now c.args.level c.args.rs) c.requires (omega (arith, c.if-level-gt1.true)))

pub returns-then-not-fit : goal.returns-then-not-fit
returns-then-not-fit c = sym (decide_roles c.args.table.now (lent_question c.args.group.now c.args.user.now c.args.host.now c.args.roles.now c.args.lengths.now c.args.level c.args.rs) c.requires (omega (arith, c.if-level-gt1.false)) (sym c.fit.ensures ∙ not-true c.fit.result c.if-not-fit.true-raw))

pub decision_of_group-d-requires : goal.decision_of_group-d-requires
decision_of_group-d-requires c =
    answering_stored c.args.table.now c.args.group.now c.in-Some.i c.requires c.answering_group.ensures c.in-Some.is

pub returns-in-None : goal.returns-in-None
returns-in-None c = sym (decide_none c.args.table.now (lent_question c.args.group.now c.args.user.now c.args.host.now c.args.roles.now c.args.lengths.now c.args.level c.args.rs) c.requires (omega (arith, c.if-level-gt1.false)) (sym c.fit.ensures ∙ not-false c.fit.result c.if-not-fit.false-raw) c.answering_group.ensures c.in-None.is)

pub returns-in-Some : goal.returns-in-Some
returns-in-Some c = let fits = sym c.fit.ensures ∙ not-false c.fit.result c.if-not-fit.false-raw in sym (decide_by c.args.table.now (lent_question c.args.group.now c.args.user.now c.args.host.now c.args.roles.now c.args.lengths.now c.args.level c.args.rs) c.requires (omega (arith, c.if-level-gt1.false)) fits c.answering_group.ensures c.in-Some.i refl (lent_cut c.args.roles.now c.args.lengths.now fits) c.in-Some.is (c.decision_of_group-d.ensures c.args.rs (record { values = c.inputs_of-inputs.ensures.0; good = c.inputs_of-inputs.ensures.1 })))
