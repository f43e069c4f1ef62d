-- std's words for a finite number and for not-a-number; a finite number lies between the infinities. Assumes nothing.
use Rattle.std.specs.Prelude.{◌≡◌, refl, true, false, ◌&&◌, Float}
use Rattle.std.specs.Float.{nan, inf, fin, binary64, float_is_finite}
use Rattle.std.specs.Float.Ieee.{of_bits, div, neg, lt}
use Rattle.spec_calc.specs.Value.{finite}

-- 1 / 0
abbrev pub infinity : Float
infinity = div binary64 (of_bits binary64 0x3ff0_0000_0000_0000) (of_bits binary64 0)

pub finite_lt : (x : Float) → (lt (neg infinity) x && lt x infinity) ≡ finite x
unfolding lt neg div of_bits
finite_lt nan = refl
finite_lt (inf true) = refl
finite_lt (inf false) = refl
finite_lt (fin s m e) = refl

pub finite_is : (x : Float) → float_is_finite x ≡ finite x
unfolding float_is_finite
finite_is nan = refl
finite_is (inf s) = refl
finite_is (fin s m e) = refl

pub nan_is : of_bits binary64 0x7ff8_0000_0000_0000 ≡ nan
unfolding of_bits
nan_is = refl
