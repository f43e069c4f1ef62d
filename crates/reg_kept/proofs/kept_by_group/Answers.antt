use Rattle.std.proofs.Common.{refl, arith}
use Rattle.reg_kept.specs.laws.Kept.{group_low, keeps}
use Rattle.reg_kept.proofs.kept_by_group.Goals as goal

pub overflow_add-result : goal.overflow_add-result
overflow_add-result c = omega (arith, group_low c.args.table.now c.args.i c.requires)

pub overflow_cast-result : goal.overflow_cast-result
overflow_cast-result c = omega (arith, group_low c.args.table.now c.args.i c.requires)

pub returns : goal.returns
returns c = let k = c.args.c in keeps c.args.table.now c.args.i c.requires c.args.states.now c.args.values.now k.user.now k.host.now k.level refl c.keep.ensures c.outcomes_of-outcomes.ensures c.kept_decision.ensures c.number-right.ensures c.field-count.ensures refl
