use Rattle.ask_input.specs.laws.Walk.{group_found, group_none}
use native.Mathlib.Omega.{arith}
use mathlib.Core.Path.{sym, ◌∙◌}
use Rattle.ask_input.proofs.group_at_checked.Goals as goal

pub name_part-requires : goal.name_part-requires
name_part-requires c = record { table = c.requires; inside = omega (arith, c.if-number-count.true, c.count.ensures) }

pub returns-then-number-count : goal.returns-then-number-count
returns-then-number-count c = c.name_part.ensures ∙ sym (group_found c.args.table.now c.args.number c.requires (omega (arith, c.if-number-count.true, c.count.ensures)))

pub returns-else-number-count : goal.returns-else-number-count
returns-else-number-count c = sym (group_none c.args.table.now c.args.number c.requires (omega (arith, c.if-number-count.false, c.count.ensures)))
