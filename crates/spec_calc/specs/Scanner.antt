-- The scanner of a calculation: a machine that decides which symbols a text has. That it agrees with Spells and Number is proved (proofs/laws/Spelling,
-- proofs/laws/Numeral), so nobody has to believe it.
use Rattle.std.specs.Prelude.{◌&&◌, cond, List, [], ◌∷◌, ◌++◌, ℕ, zero, suc, ◌+◌, ◌-◌, leb, length, take, drop, Float}
use Rattle.std.proofs.Math.Option.{Option, none, some}
use Prim.Native.Char.{code}
use Rattle.spec_lists.specs.Text.{same, among, within, digit, whole}
use Rattle.spec_lists.specs.Select.{all, first, run, after}
use Rattle.spec_calc.specs.Symbol.{Symbol, number, letter, decimal, most_digits, numeral_byte, Spelling, spellings}

-- whole digits, and the digits behind the point
abbrev pub within_digits : List ℕ → List ℕ → Option Float
within_digits w f = cond (leb (length w + length f) most_digits) (some (decimal (whole 0 (w ++ f)) (length f))) none

-- the whole digits w, and then the rest: nothing, or a point and digits
abbrev pub pointed : List ℕ → List ℕ → Option Float
pointed w [] = within_digits w []
pointed w (b ∷ []) = none
pointed w (b ∷ d ∷ ds) = cond (among "." b && all digit (d ∷ ds)) (within_digits w (d ∷ ds)) none

-- the value of a number; the empty text passes for 0, and is never asked for
abbrev pub numeral : List ℕ → Option Float
numeral s = pointed (run digit s) (after digit s)

-- what a text begins with: a blank, a number, a symbol and how many bytes stand behind its first, or nothing that is allowed
pub data Start : Type 0 where
  blank figure wrong : Start
  sign : Symbol → ℕ → Start

abbrev pub sign_of : Option Spelling → Start
sign_of none = wrong
sign_of (some x) = sign x.symbol (length x.spelled - 1)

abbrev pub start : ℕ → List ℕ → Start
start b s =
    cond (among " \t" b) blank
    (cond (numeral_byte b) figure
    (cond (within (code "A") (code "U") b) (sign (letter (b - code "A")) 0)
    (cond (within (code "a") (code "u") b) (sign (letter (b - code "a")) 0)
    (sign_of (first (λ x. same x.spelled (take (length x.spelled) (b ∷ s))) spellings)))))

-- what it begins with among the signs alone
unfoldable pub spelling : ℕ → List ℕ → Start
spelling b s = sign_of (first (λ x. same x.spelled (take (length x.spelled) (b ∷ s))) spellings)

abbrev pub then : Symbol → Option (List Symbol) → Option (List Symbol)
then x none = none
then x (some xs) = some (x ∷ xs)

abbrev pub then_number : Option Float → Option (List Symbol) → Option (List Symbol)
then_number none xs = none
then_number (some v) xs = then (number v) xs

-- The symbols of a text, if it has no others. The number bounds the steps: each takes a byte, so a text's length is enough.
unfoldable pub symbols_in : ℕ → List ℕ → Option (List Symbol)
symbols_in zero [] = some []
symbols_in zero (b ∷ s) = none
symbols_in (suc n) [] = some []
symbols_in (suc n) (b ∷ s) =
    elim (start b s) [
      | blank ↦ symbols_in n s
      | figure ↦ then_number (numeral (run numeral_byte (b ∷ s))) (symbols_in n (after numeral_byte (b ∷ s)))
      | wrong ↦ none
      | sign x more ↦ then x (symbols_in n (drop more s))
    ]

abbrev pub symbols : List ℕ → Option (List Symbol)
symbols s = symbols_in (length s) s
