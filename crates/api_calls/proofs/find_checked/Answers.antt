use Rattle.ask_input.specs.laws.LookUp.{look_not}
use mathlib.Core.Path.{sym, ◌∙◌}
use Rattle.api_calls.proofs.find_checked.Goals as goal

pub find_input_checked-requires : goal.find_input_checked-requires
find_input_checked-requires c = sym c.is_table.ensures ∙ c.if-is_table.true

pub returns-else-is_table : goal.returns-else-is_table
returns-else-is_table c = let a = c.args in
    sym (look_not a.lent.now a.group.now a.letter (sym c.is_table.ensures ∙ c.if-is_table.false))
