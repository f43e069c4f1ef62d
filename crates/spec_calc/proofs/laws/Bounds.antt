-- The bounds of the test for true are the decimals of the papers.
use Rattle.std.specs.Prelude.{◌≡◌, refl}
use Rattle.std.specs.Float.Ieee as Ieee
use Rattle.std.specs.Float.Ieee.{of_bits}
use Rattle.spec_calc.specs.Symbol.{decimal}
use Rattle.spec_calc.specs.Value.{lower_bound, upper_bound}

pub lower_bound_is : lower_bound ≡ decimal 99 2
unfolding Ieee.of_bits Ieee.of_int Ieee.div
lower_bound_is = refl

pub upper_bound_is : upper_bound ≡ decimal 101 2
unfolding Ieee.of_bits Ieee.of_int Ieee.div
upper_bound_is = refl
