use mathlib.Core.Path.{sym, ◌∙◌}
use Rattle.reg_set.specs.laws.Set.{set_short, set_no_table}
use Rattle.spec_places.specs.Storage.{lent}
use Rattle.reading.proofs.set.Goals as goal

pub returns-then-not-is_register : goal.returns-then-not-is_register
returns-then-not-is_register c = let a = c.args in set_short (lent a.table.now a.places.now a.states.now a.values.now) a.group.now a.letter a.r (sym c.is_register.ensures ∙ c.if-not-is_register.true)

pub returns-then-not-is_table : goal.returns-then-not-is_table
returns-then-not-is_table c = let a = c.args in set_no_table (lent a.table.now a.places.now a.states.now a.values.now) a.group.now a.letter a.r (sym c.is_register.ensures ∙ c.if-not-is_register.false) (sym c.is_table.ensures ∙ c.if-not-is_table.true)

pub set_checked-requires : goal.set_checked-requires
set_checked-requires c = sym c.is_table.ensures ∙ c.if-not-is_table.false

pub returns : goal.returns
returns c = c.set_checked.ensures
