use Rattle.reg_settle.specs.laws.Settle.{settling_none, settling_fits, settling_more, settling_all}
use native.Mathlib.Omega.{arith}
use Rattle.reg_settle.proofs.settle.Goals as goal

pub loop-p-init : goal.loop-p-init
loop-p-init c = let a = c.args in settling_none a.table.now a.places.now

pub settle_place-requires : goal.settle_place-requires
settle_place-requires c = record { placed = record { inside = omega (arith, c.loop-p.invariant.inside); room = omega (arith, c.requires.placed.room, c.loop-p.invariant.same_length) }; table_value = c.requires.table_value }

pub overflow_mul-m : goal.overflow_mul-m
overflow_mul-m c = let a = c.args in omega (arith, settling_fits a.table.now a.places.now (omega arith) c.loop-p.invariant c.settle_place.ensures)

pub overflow_add-m : goal.overflow_add-m
overflow_add-m c = let a = c.args in omega (arith, settling_fits a.table.now a.places.now (omega arith) c.loop-p.invariant c.settle_place.ensures)

pub loop-p-preserved : goal.loop-p-preserved
loop-p-preserved c = let a = c.args in settling_more a.table.now a.places.now (omega arith) c.loop-p.invariant c.settle_place.ensures

pub returns : goal.returns
returns c = let a = c.args in settling_all a.table.now a.places.now (omega arith) c.loop-p.invariant
