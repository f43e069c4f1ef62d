-- Letters by their bytes.
use Rattle.std.specs.Prelude.{Bool, false, cond, List, [], ◌∷◌, ◌++◌, ℕ, get_or, Option as Maybe, Some, None}
use Rattle.std.proofs.Math.Option.{Option, none, some}
use Rattle.spec_calc.specs.Scanner.{Start, blank, figure, wrong, sign, start}
use Rattle.spec_calc.proofs.laws.Letters.{letter_of}

-- a letter is among those given
abbrev pub given_letter : List Bool → ℕ → Bool
given_letter given i = get_or given i false

-- the letter that a text begins with, if it does
abbrev pub letter_begun : Start → List ℕ
letter_begun blank = []
letter_begun figure = []
letter_begun wrong = []
letter_begun (sign x m) = letter_of x

-- the letters among the bytes of a text, each byte by itself
unfoldable pub byte_letters : List ℕ → List ℕ
byte_letters [] = []
byte_letters (b ∷ s) = letter_begun (start b []) ++ byte_letters s

-- the first of some letters, if it is not given
abbrev pub bad_among : List Bool → List ℕ → Maybe ℕ
bad_among given [] = None
bad_among given (i ∷ is) = cond (given_letter given i) None (Some i)

-- what the code answers, as the definitions have it
abbrev pub as_found : Maybe ℕ → Option ℕ
as_found None = none
as_found (Some i) = some i
