use Rattle.ask_input.specs.laws.LookUp.{look_not, look_none, part_found}
use Rattle.table_read.specs.laws.Search.{finds_at}
use Rattle.spec_decision.specs.LookUp.{part_in}
use mathlib.Core.Path.{sym, ap, ◌∙◌}
use Rattle.ask.proofs.look_up.Goals as goal

pub input_of-requires : goal.input_of-requires
input_of-requires c = sym c.is_table.ensures ∙ c.if-is_table.true

pub name_of-requires : goal.name_of-requires
name_of-requires c = record { table = sym c.is_table.ensures ∙ c.if-is_table.true; inside = (finds_at c.in-Some.i c.input_of.ensures c.in-Some.is).1 }

pub returns-in-Some : goal.returns-in-Some
returns-in-Some c = c.name_of.ensures ∙ part_found c.args.table.now c.args.group.now c.args.letter (sym c.is_table.ensures ∙ c.if-is_table.true) c.in-Some.i c.input_of.ensures c.in-Some.is

pub returns-in-None : goal.returns-in-None
returns-in-None c = ap (λ x. part_in x c.args.table.now) (sym (look_none c.args.table.now c.args.group.now c.args.letter (sym c.is_table.ensures ∙ c.if-is_table.true) c.input_of.ensures c.in-None.is))

pub returns-else-is_table : goal.returns-else-is_table
returns-else-is_table c = ap (λ x. part_in x c.args.table.now) (sym (look_not c.args.table.now c.args.group.now c.args.letter (sym c.is_table.ensures ∙ c.if-is_table.false)))
