use Rattle.spec_rule.specs.Question.{lent_question}
use Rattle.ask_checked.specs.laws.Decide.{decide_not}
use mathlib.Core.Path.{sym, ◌∙◌}
use Rattle.ask.proofs.decide.Goals as goal

pub decide_checked-requires : goal.decide_checked-requires
decide_checked-requires c = sym c.is_table.ensures ∙ c.if-is_table.true

pub returns-else-is_table : goal.returns-else-is_table
returns-else-is_table c = sym (decide_not c.args.table.now (lent_question c.args.group.now c.args.user.now c.args.host.now c.args.roles.now c.args.lengths.now c.args.level c.args.rs) (sym c.is_table.ensures ∙ c.if-is_table.false))
