-- The values of the words, as the code has them.
use Rattle.std.specs.Prelude.{◌≡◌, refl, true, false}
use Rattle.std.specs.Float.Ieee as Ieee
use Rattle.std.specs.Float.{nan, inf, binary64}
use Rattle.std.specs.Float.Ieee.{of_bits}

pub nan_is : of_bits binary64 9221120237041090560 ≡ nan
unfolding Ieee.of_bits
nan_is = refl

pub inf_is : of_bits binary64 9218868437227405312 ≡ inf false
unfolding Ieee.of_bits
inf_is = refl

pub minus_inf_is : of_bits binary64 18442240474082181120 ≡ inf true
unfolding Ieee.of_bits
minus_inf_is = refl
