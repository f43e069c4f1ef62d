use Rattle.ask_input.specs.laws.LookUp.{look_none, look_found}
use Rattle.table_read.specs.laws.Search.{finds_at}
use mathlib.Core.Path.{sym, ◌∙◌}
use Rattle.ask_input.proofs.find_input_checked.Goals as goal

pub name_part-requires : goal.name_part-requires
name_part-requires c = record { table = c.requires; inside = (finds_at c.in-Some.i c.input_of.ensures c.in-Some.is).1 }

pub returns-in-None : goal.returns-in-None
returns-in-None c = sym (look_none c.args.table.now c.args.group.now c.args.letter c.requires c.input_of.ensures c.in-None.is)

pub returns-in-Some : goal.returns-in-Some
returns-in-Some c = c.name_part.ensures ∙ sym (look_found c.args.table.now c.args.group.now c.args.letter c.requires c.in-Some.i c.input_of.ensures c.in-Some.is)
