-- Readings as a caller in C has them: a state and a value for each. 01, "The question": "A reading is never heard, or invalid, or a binary64 value".
use Rattle.std.specs.Prelude.{cond, List, [], ◌∷◌, ℕ, zero, suc, ◌+◌, eqb, get_or, Float}
use Rattle.std.specs.Float.{nan}
use Rattle.spec_calc.specs.declared.Reading.{Reading}
use Rattle.spec_calc.specs.declared.Reading.TheVariants.{NeverHeard, Invalid, Value}

-- the state 0 is never heard, 2 has the value, and any other is invalid
abbrev pub reading : ℕ → Float → Reading
reading state x = cond (eqb state 0) NeverHeard (cond (eqb state 2) (Value x) Invalid)

-- the k-th reading: beyond the states it was never heard, beyond the values it is not a number, and so bad
abbrev pub reading_at : List ℕ → List Float → ℕ → Reading
reading_at states values k = reading (get_or states k 0) (get_or values k nan)

-- n readings from the k-th on
unfoldable pub readings_from : List ℕ → List Float → ℕ → ℕ → List Reading
readings_from states values k zero = []
readings_from states values k (suc n) = reading_at states values k ∷ readings_from states values (k + 1) n

-- the 21 readings of a question or a calculation
abbrev pub readings : List ℕ → List Float → ℕ → List Reading
readings states values k = readings_from states values k 21
