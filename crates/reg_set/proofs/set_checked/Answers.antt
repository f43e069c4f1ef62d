use mathlib.Core.Path.{refl, sym, subst, ◌∙◌}
use Rattle.reg_set.specs.laws.Set.{set_short, set_no_input, set_done}
use Rattle.reg_set.specs.Set.{HasInput}
use Rattle.spec_places.specs.Storage.{lent}
use Rattle.table_read.specs.Search.{Index}
use Rattle.reg_set.proofs.set_checked.Goals as goal

pub returns-then-not-is_register : goal.returns-then-not-is_register
returns-then-not-is_register c = let a = c.args in set_short (lent a.table.now a.places.now a.states.now a.values.now) a.group.now a.letter a.r (sym c.is_register.ensures ∙ c.if-not-is_register.true)

pub set_reading-requires : goal.set_reading-requires
set_reading-requires c = let a = c.args in let k = subst (λ (o : Index). HasInput a.table.now a.group.now a.letter o) c.in-Some.is c.group_with_input.ensures in record { values_value = sym c.is_register.ensures ∙ c.if-not-is_register.false; stored = (k.stored, k.lettered) }

pub returns-in-None : goal.returns-in-None
returns-in-None c = let a = c.args in set_no_input (lent a.table.now a.places.now a.states.now a.values.now) a.group.now a.letter a.r (sym c.is_register.ensures ∙ c.if-not-is_register.false) c.requires (subst (λ (o : Index). HasInput a.table.now a.group.now a.letter o) c.in-None.is c.group_with_input.ensures)

pub returns-in-Some : goal.returns-in-Some
returns-in-Some c = let a = c.args in set_done (lent a.table.now a.places.now a.states.now a.values.now) a.group.now a.letter a.r (sym c.is_register.ensures ∙ c.if-not-is_register.false) c.requires (subst (λ (o : Index). HasInput a.table.now a.group.now a.letter o) c.in-Some.is c.group_with_input.ensures) c.set_reading.ensures refl
