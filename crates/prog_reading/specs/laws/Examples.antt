-- The readings of 01 that are easily got wrong.
use Rattle.std.specs.Prelude.{◌≡◌, refl, None, Some}
use Rattle.std.specs.Float.Ieee.{neg}
use Rattle.spec_lists.specs.Text.{bytes}
use Rattle.spec_calc.specs.declared.Reading.TheVariants.{Value}
use Rattle.spec_calc.specs.Symbol.{decimal}
use Rattle.prog_reading.specs.Reading.{reading}

minus_zero : reading (bytes "-0") ≡ Some (Value (neg (decimal 0 0)))
unfolding reading
minus_zero = refl

minus_nan : reading (bytes "-nan") ≡ None
unfolding reading
minus_nan = refl

no_digits : reading (bytes "-") ≡ None
unfolding reading
no_digits = refl
