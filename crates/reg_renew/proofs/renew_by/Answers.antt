use native.Mathlib.Omega.{arith}
use Rattle.reg_renew.specs.laws.Renew.{renewing_none, renewing_fits, renewing_more, renewing_all}
use Rattle.reg_renew.proofs.renew_by.Goals as goal

pub loop-p-init : goal.loop-p-init
loop-p-init c = let a = c.args in renewing_none a.table.now a.group a.outcomes.now a.places.now

pub renew_place-requires : goal.renew_place-requires
renew_place-requires c = record { placed = record { inside = omega (arith, c.loop-p.invariant.inside); room = omega (arith, c.requires.placed.room, c.loop-p.invariant.same_length) }; stored = c.requires.stored }

pub overflow_mul-m : goal.overflow_mul-m
overflow_mul-m c = let a = c.args in omega (arith, renewing_fits a.table.now a.group a.outcomes.now a.places.now (omega arith) c.loop-p.invariant c.renew_place.ensures)

pub overflow_add-m : goal.overflow_add-m
overflow_add-m c = let a = c.args in omega (arith, renewing_fits a.table.now a.group a.outcomes.now a.places.now (omega arith) c.loop-p.invariant c.renew_place.ensures)

pub loop-p-preserved : goal.loop-p-preserved
loop-p-preserved c = let a = c.args in renewing_more a.table.now a.group a.outcomes.now a.places.now (omega arith) c.loop-p.invariant c.renew_place.ensures c.requires.stored.0.table c.renew_place.auto.places

pub returns : goal.returns
returns c = let a = c.args in renewing_all a.table.now a.group a.outcomes.now a.places.now (omega arith) c.requires.stored.0.table c.loop-p.invariant
