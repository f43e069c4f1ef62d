use Rattle.ask_checked.specs.laws.Decide.{decide_not}
use Rattle.spec_rule.specs.Question.{lent_question}
use mathlib.Core.Path.{sym, ◌∙◌}
use Rattle.api_calls.proofs.ask_checked.Goals as goal

pub decide_checked-requires : goal.decide_checked-requires
decide_checked-requires c = sym c.is_table.ensures ∙ c.if-is_table.true

pub returns-else-is_table : goal.returns-else-is_table
returns-else-is_table c = let a = c.args in
    sym
    (decide_not
    a.lent.now
    (lent_question a.group.now a.user.now a.host.now a.roles.now a.lengths.now a.level a.rs)
    (sym c.is_table.ensures ∙ c.if-is_table.false))
