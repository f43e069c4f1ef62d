use mathlib.Core.Path.{ap}
use Prim.Native.Nat.{◌+◌, ◌*◌}
use native.Mathlib.Omega.{arith}
use lib.ListN.{set}
use Rattle.reg_set.specs.laws.Set.{roomy}
use Rattle.reg_kept.specs.laws.Kept.{group_low}
use Rattle.spec_places.specs.Storage.{lent}
use Rattle.reg_set.proofs.set_reading.Goals as goal

pub overflow_mul-at : goal.overflow_mul-at
overflow_mul-at c = omega (arith, group_low c.args.table.now c.args.i c.requires.stored.0)

pub overflow_add-at : goal.overflow_add-at
overflow_add-at c = omega (arith, group_low c.args.table.now c.args.i c.requires.stored.0, c.requires.stored.1)

pub bounds-states-at : goal.bounds-states-at
bounds-states-at c = let a = c.args in omega (arith, group_low a.table.now a.i c.requires.stored.0, c.requires.stored.1, (roomy (lent a.table.now a.places.now a.states.now a.values.now) c.requires.values_value).states)

pub offset_bounds-values-at : goal.offset_bounds-values-at
offset_bounds-values-at c = omega (arith, group_low c.args.table.now c.args.i c.requires.stored.0, c.requires.stored.1)

pub bounds-values-at : goal.bounds-values-at
bounds-values-at c = let a = c.args in omega (arith, group_low a.table.now a.i c.requires.stored.0, c.requires.stored.1, (roomy (lent a.table.now a.places.now a.states.now a.values.now) c.requires.values_value).values)

pub renew-requires : goal.renew-requires
renew-requires c = let a = c.args in record { placed = record { inside = omega arith; room = (roomy (lent a.table.now a.places.now a.states.now a.values.now) c.requires.values_value).places }; stored = c.requires.stored.0 }

pub returns : goal.returns
returns c = let a = c.args in record { states = ap (set a.states.now (a.i * 21 + a.letter)) c.state_of.ensures; values = ap (set a.values.now (a.i * 21 + a.letter)) c.value_of.ensures; renewed = c.renew.ensures }
