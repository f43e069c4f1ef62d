use Rattle.std.proofs.Common.{◌+◌, ◌-◌, ◌*◌, arith, drop, get_or}
use Rattle.load_values.specs.laws.Levels.{whole_least, whole_step}
use Rattle.load_values.proofs.small_whole.Goals as goal

pub returns-then-value-gt1 : goal.returns-then-value-gt1
returns-then-value-gt1 c =
    let t = c.args.digits.now in
    let i = c.loop-digit.digit-index in
    let v = c.loop-digit.value in
    omega (arith, c.loop-digit.invariant.1, whole_step t i v c.loop-digit-test.true, whole_least (v * 10 + (get_or t i 0 - 48)) (drop (i + 1) t), c.saturating_sub.ensures, c.from.ensures)
