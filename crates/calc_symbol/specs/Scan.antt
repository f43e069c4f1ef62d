-- What the code finds at an offset of a text, against the text's symbols.
use Rattle.std.specs.Prelude.{◌≡◌, false, List, [], ◌∷◌, ℕ, ◌+◌, ◌≤◌, ◌<◌, length, take, drop, get_or, Option as Maybe, Some, None, IfSome}
use Rattle.std.proofs.Math.Option.{Option}
use Rattle.spec_lists.specs.Text.{same, among}
use Rattle.spec_calc.specs.declared.Operator.{Operator}
use Rattle.spec_lists.specs.Select.{first}
use Rattle.spec_calc.specs.Symbol.{Symbol, letter, operator, not_sign, question, colon, open_paren, close_paren, spellings}
use Rattle.spec_calc.specs.Scanner.{Start, blank, figure, wrong, sign}
use Rattle.spec_calc.specs.Scanner.{sign_of, start, spelling, then, symbols}
use Rattle.calc_symbol.specs.declared.Class.{Class}
use Rattle.calc_symbol.specs.declared.Class.TheVariants as class
use Rattle.calc_symbol.specs.declared.Sign.{Sign}
use Rattle.calc_symbol.specs.declared.Sign.TheVariants as code

-- the symbols from an offset on
unfoldable pub syms : List ℕ → ℕ → Option (List Symbol)
syms s at = symbols (drop at s)

abbrev pub symbol_of : Sign → Symbol
symbol_of (code.Operator o) = operator o
symbol_of code.Not = not_sign
symbol_of code.Question = question
symbol_of code.Colon = colon
symbol_of code.Open = open_paren
symbol_of code.Close = close_paren

-- the spelling that begins a text among those of one byte, which stand last
unfoldable pub single : ℕ → Start
single b = sign_of (first (λ x. same x.spelled (take (length x.spelled) (b ∷ []))) (drop 6 spellings))

-- what begins at an offset, and the same among the spellings alone
abbrev pub start_at : List ℕ → ℕ → Start
start_at s at = start (get_or s at 0) (drop (at + 1) s)

abbrev pub spelling_at : List ℕ → ℕ → Start
spelling_at s at = spelling (get_or s at 0) (drop (at + 1) s)

-- no blank, number or letter begins at an offset
abbrev pub SignOnly : List ℕ → ℕ → Type 0
SignOnly s at = start_at s at ≡ spelling_at s at

abbrev pub started : Class → ℕ → List ℕ → Start
started class.Blank b s = blank
started class.Figure b s = figure
started (class.Letter i) b s = sign (letter i) 0
started class.Other b s = spelling b s

abbrev pub ClassOk : Class → Type 0
ClassOk class.Blank = Unit {0}
ClassOk class.Figure = Unit {0}
ClassOk (class.Letter i) = i < 21
ClassOk class.Other = Unit {0}

-- a sign of one byte, or none
abbrev pub single_as : Maybe Sign → Start
single_as (Some x) = sign (symbol_of x) 0
single_as None = wrong

-- an operator of two bytes, or else another start
abbrev pub pair_as : Maybe Operator → Start → Start
pair_as (Some o) other = sign (operator o) 1
pair_as None other = other

-- at an offset stands the symbol x, and behind it the offset n
pub record SymbolAt (s : List ℕ) (at : ℕ) (x : Symbol) (n : ℕ) : Type 0 where
  pub later : at < n
  pub within : n ≤ length s
  pub reads : syms s at ≡ then x (syms s n)

-- an operator of two bytes at an offset, or that none is spelled there
pub record PairAt (s : List ℕ) (at : ℕ) (r : Maybe Operator) : Type 0 where
  pub spells : pair_as r (single (get_or s at 0)) ≡ spelling_at s at
  pub inside : IfSome r (λ _. at + 1 < length s)

-- a sign at an offset, and the offset behind it, or that none is spelled there
abbrev pub SignAt : List ℕ → ℕ → Maybe (Sign × ℕ) → Type 0
SignAt s at (Some r) = SymbolAt s at (symbol_of r.0) r.1
SignAt s at None = spelling_at s at ≡ wrong

-- only blanks stand between at and p
pub record BlanksTo (s : List ℕ) (at p : ℕ) : Type 0 where
  pub later : at ≤ p
  pub within : p ≤ length s
  pub reads : syms s at ≡ syms s p
  pub bare : among " \t" (get_or s p 0) ≡ false
