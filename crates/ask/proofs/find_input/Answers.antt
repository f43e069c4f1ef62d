use Rattle.ask_input.specs.laws.LookUp.{look_not}
use mathlib.Core.Path.{sym, ◌∙◌}
use Rattle.ask.proofs.find_input.Goals as goal

pub find_input_checked-requires : goal.find_input_checked-requires
find_input_checked-requires c = sym c.is_table.ensures ∙ c.if-is_table.true

pub returns-else-is_table : goal.returns-else-is_table
returns-else-is_table c = sym (look_not c.args.table.now c.args.group.now c.args.letter (sym c.is_table.ensures ∙ c.if-is_table.false))
