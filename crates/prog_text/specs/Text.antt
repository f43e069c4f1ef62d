-- Numbers and lines as the two programs print them.
use Rattle.std.specs.Prelude.{cond, List, [], ◌∷◌, ◌++◌, ℕ, zero, suc, ◌+◌, ◌/◌, ◌%◌, ltb}
use Prim.Native.Char.{code}

-- The digits of a number, the last by itself and those of its tenth before it. The first number bounds the steps.
unfoldable pub digits_in : ℕ → ℕ → List ℕ
digits_in zero n = []
digits_in (suc f) n = cond (ltb n 10) ((code "0" + n) ∷ []) (digits_in f (n / 10) ++ ((code "0" + n % 10) ∷ []))

-- a number in decimal digits, no 0 before them
unfoldable pub decimal_digits : ℕ → List ℕ
decimal_digits n = digits_in (suc n) n

-- a text on a line of its own
abbrev pub line : List ℕ → List ℕ
line text = text ++ (10 ∷ [])
