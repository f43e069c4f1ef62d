-- The symbols of a calculation's text. 01, "The calculation". No scanner stands here.
use Rattle.std.specs.Prelude.{◌≡◌, Bool, true, ◌||◌, ℕ, ◌+◌, ◌-◌, ◌^◌, ◌≤◌, length, pos, Float}
use mathlib.Core.List.{List, [], ◌∷◌, ◌++◌, Memᴰ}
use Prim.Native.Char.{code}
use Prim.Native.String.{String}
use Rattle.std.specs.Float.{binary64}
use Rattle.std.specs.Float.Ieee.{of_int, div}
use Rattle.spec_lists.specs.Text.{bytes, among, within, digit, whole}
use Rattle.spec_lists.specs.Select.{all, run, after}
use Rattle.spec_calc.specs.declared.Operator.{Operator}
use Rattle.spec_calc.specs.declared.Operator.TheVariants.{Or, And, Less, AtMost, More, AtLeast, Equal, Differs, Plus, Minus, Times, Over}

pub data Symbol : Type 0 where
  number : Float → Symbol
  letter : ℕ → Symbol
  operator : Operator → Symbol
  not_sign question colon open_paren close_paren : Symbol

-- 01: "the digits as a whole number, divided once by that power of ten, rounded to nearest"
abbrev pub decimal : ℕ → ℕ → Float
decimal n places = div binary64 (of_int binary64 (pos n)) (of_int binary64 (pos (10 ^ places)))

-- 01: "15 digits at most"
abbrev pub most_digits : ℕ
most_digits = 15

-- one digit or more
abbrev pub Digits : List ℕ → Type 0
Digits w = (all digit w ≡ true) × (1 ≤ length w)

-- 01: "A number is digits, digits with a point and digits, or a point and digits: 15 digits at most." And what is its value.
pub data Number : List ℕ → Float → Type 0 where
  whole_number : {w : List ℕ} → Digits w → length w ≤ most_digits → Number w (decimal (whole 0 w) 0)
  with_point :
      (w f : List ℕ) {s : List ℕ} → Digits w → Digits f → s ≡ w ++ (code "." ∷ f) → length w + length f ≤ most_digits
      → Number s (decimal (whole 0 (w ++ f)) (length f))
  behind_point : {f : List ℕ} → Digits f → length f ≤ most_digits → Number (code "." ∷ f) (decimal (whole 0 f) (length f))

-- what numbers are spelled with
abbrev pub numeral_byte : ℕ → Bool
numeral_byte b = digit b || among "." b

-- a symbol and how it is spelled
pub record Spelling : Type 0 where
  pub spelled : List ℕ
  pub symbol : Symbol

abbrev pub spell : String → Symbol → Spelling
spell s x = record { spelled = bytes s; symbol = x }

-- 01: "`c ? x : y` [..]; `||`; `&&`; `< <= > >= = == # !=`; `+ -`; `* /`; prefixes `-` and `!`, [..] parentheses"
abbrev pub spellings : List Spelling
spellings =
    spell "||" (operator Or)
    ∷ spell "&&" (operator And)
    ∷ spell "<=" (operator AtMost)
    ∷ spell ">=" (operator AtLeast)
    ∷ spell "==" (operator Equal)
    ∷ spell "!=" (operator Differs)
    ∷ spell "<" (operator Less)
    ∷ spell ">" (operator More)
    ∷ spell "=" (operator Equal)
    ∷ spell "#" (operator Differs)
    ∷ spell "+" (operator Plus)
    ∷ spell "-" (operator Minus)
    ∷ spell "*" (operator Times)
    ∷ spell "/" (operator Over)
    ∷ spell "!" not_sign
    ∷ spell "?" question
    ∷ spell ":" colon
    ∷ spell "(" open_paren
    ∷ spell ")" close_paren
    ∷ []

-- the bytes w spell the sign x
abbrev pub Spelled : List ℕ → Symbol → Type 0
Spelled w x = Memᴰ (record { spelled = w; symbol = x }) spellings

-- 01: "Longest operator first.": no longer sign begins the text s
abbrev pub Longest : List ℕ → List ℕ → Type 0
Longest w s = (v r : List ℕ) (y : Symbol) → s ≡ v ++ r → Spelled v y → length v ≤ length w

-- the text s has the symbols xs
pub data Spells : List ℕ → List Symbol → Type 0 where
  end : Spells [] []
  -- 01: "Space and tab are skipped."
  skipped : {b : ℕ} {s : List ℕ} {xs : List Symbol} → among " \t" b ≡ true → Spells s xs → Spells (b ∷ s) xs
  -- all digits and points that stand together are one number, or none
  numbered :
      {s : List ℕ} {v : Float} {xs : List Symbol}
      → Number (run numeral_byte s) v
      → Spells (after numeral_byte s) xs
      → Spells s (number v ∷ xs)
  -- 01: "letter A to U in either case"
  capital :
      {b : ℕ} {s : List ℕ} {xs : List Symbol}
      → within (code "A") (code "U") b ≡ true
      → Spells s xs
      → Spells (b ∷ s) (letter (b - code "A") ∷ xs)
  small :
      {b : ℕ} {s : List ℕ} {xs : List Symbol}
      → within (code "a") (code "u") b ≡ true
      → Spells s xs
      → Spells (b ∷ s) (letter (b - code "a") ∷ xs)
  signed :
      {s w r : List ℕ} {x : Symbol} {xs : List Symbol}
      → s ≡ w ++ r
      → Spelled w x
      → Longest w s
      → Spells r xs
      → Spells s (x ∷ xs)
