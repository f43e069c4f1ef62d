use Rattle.std.specs.Prelude.{◌≡◌, ◌+◌}
use Rattle.calc_numeral.specs.laws.Digits.{Counting}
use Rattle.calc_numeral.proofs.digits_at.Given as goal

abbrev pub invariant-loop-b : goal.invariant-loop-b
invariant-loop-b l = (l.d.end ≡ l.at + l.b-index) × Counting l.s l.at l.left l.n l.d.end l.d.left l.d.number
