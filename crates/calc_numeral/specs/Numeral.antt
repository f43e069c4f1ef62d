-- What the code finds of a number that begins at an offset of a text.
use Rattle.std.specs.Prelude.{◌≡◌, ℕ, ◌+◌, ◌-◌, ◌^◌, ◌<◌, ◌≤◌, List, ◌++◌, length, drop, Option, Some, None, Float}
use Rattle.std.proofs.Math.Option.{none, some}
use Rattle.spec_lists.specs.Text.{bytes, digit, whole}
use Rattle.spec_lists.specs.Select.{run, after}
use Rattle.spec_calc.specs.Symbol.{numeral_byte}
use Rattle.spec_calc.specs.Scanner.{numeral, pointed}
use Rattle.calc_numeral.specs.declared.Digits.{Digits}

-- the digits from an offset on make up m behind those of n, and end at p; l more were allowed
pub record Counted (s : List ℕ) (at left n m p l : ℕ) : Type 0 where
  pub offset : p ≡ at + length (run digit (drop at s))
  pub room : length (run digit (drop at s)) + l ≡ left
  pub within : p ≤ length s
  pub makes : m ≡ whole n (run digit (drop at s))
  pub small : m < 10 ^ (15 - l)
  pub behind : after digit (drop at s) ≡ drop p s

abbrev pub Counts : List ℕ → ℕ → ℕ → ℕ → Option Digits → Type 0
Counts s at left n (Some d) = Counted s at left n d.number d.end d.left
Counts s at left n None = left < length (run digit (drop at s))

-- the digits and points from an offset on end at p
pub record Ends (s : List ℕ) (at p : ℕ) : Type 0 where
  pub later : at < p
  pub within : p ≤ length s
  pub behind : after numeral_byte (drop at s) ≡ drop p s

-- a point stands before the offset, and the whole digits w before that
abbrev pub Fraction : List ℕ → ℕ → List ℕ → Option (Float × ℕ) → Type 0
Fraction s at w (Some r) = Ends s at r.1 × (pointed w (bytes "." ++ run numeral_byte (drop at s)) ≡ some r.0)
Fraction s at w None = pointed w (bytes "." ++ run numeral_byte (drop at s)) ≡ none

abbrev pub Numbered : List ℕ → ℕ → Option (Float × ℕ) → Type 0
Numbered s at (Some r) = Ends s at r.1 × (numeral (run numeral_byte (drop at s)) ≡ some r.0)
Numbered s at None = numeral (run numeral_byte (drop at s)) ≡ none
