use Rattle.std.proofs.Common.{◌≡◌, ◌≤◌, drop}
use Rattle.spec_lists.specs.Text.{whole}
use Rattle.load_values.proofs.small_whole.Given as goal

abbrev pub invariant-loop-digit : goal.invariant-loop-digit
invariant-loop-digit l = (l.value ≤ 1) × (whole 0 l.digits ≡ whole l.value (drop l.digit-index l.digits))
