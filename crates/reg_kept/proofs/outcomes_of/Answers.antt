use native.Mathlib.Omega.{arith}
use Rattle.spec_places.specs.Storage.{readings_in}
use Rattle.reg_kept.specs.laws.Kept.{group_low}
use Rattle.reg_kept.proofs.outcomes_of.Goals as goal

pub overflow_mul-group : goal.overflow_mul-group
overflow_mul-group c = omega (arith, group_low c.args.table.now c.args.group c.requires)

pub inputs_at-inputs-requires : goal.inputs_at-inputs-requires
inputs_at-inputs-requires c = omega (arith, group_low c.args.table.now c.args.group c.requires)

pub returns : goal.returns
returns c = let a = c.args in c.calculate.ensures (readings_in a.states.now a.values.now a.group) (record { values = c.inputs_at-inputs.ensures.0; good = c.inputs_at-inputs.ensures.1 })
