use Rattle.ask_input.specs.laws.Walk.{group_not}
use mathlib.Core.Path.{sym, ◌∙◌}
use borrow.Author.Tests.{not-true, not-false}
use Rattle.ask.proofs.group_at.Goals as goal

pub returns-then-not-is_table : goal.returns-then-not-is_table
returns-then-not-is_table c = sym (group_not c.args.table.now c.args.number (sym c.is_table.ensures ∙ not-true c.is_table.result c.if-not-is_table.true-raw))

pub group_at_checked-requires : goal.group_at_checked-requires
group_at_checked-requires c = sym c.is_table.ensures ∙ not-false c.is_table.result c.if-not-is_table.false-raw
