-- What the code sees of the next symbol, against the steps of the reader.
use Rattle.std.specs.Prelude.{◌≡◌, Bool, true, false, List, [], ◌∷◌, ℕ, ◌≤◌, ◌<◌, Option as Maybe, Some, None}
use Rattle.std.proofs.Math.Option.{Option, none, some}
use Rattle.spec_calc.specs.declared.Operator.TheVariants as operators
use Rattle.spec_lists.specs.Text.{bytes}
use Rattle.spec_calc.specs.Symbol.{Symbol, number, letter, operator, not_sign, question, open_paren}
use Rattle.spec_calc.specs.Scanner.{sign, start}
use Rattle.spec_calc.specs.Expression.{Tree, level}
use Rattle.spec_calc.specs.Reader.{begun, paren, if_of, Stack, State, wanted, have, run, first_ends}
use Rattle.calc_symbol.specs.declared.First.{First}
use Rattle.calc_symbol.specs.declared.First.TheVariants as first
use Rattle.calc_symbol.specs.declared.Joint.{Joint}
use Rattle.calc_symbol.specs.declared.Joint.TheVariants as joint
use Rattle.calc_symbol.specs.Scan.{syms, SymbolAt}

-- what the reader comes to from a state, if there are symbols
abbrev pub from : State → Option (List Symbol) → Option Tree
from st none = none
from st (some ss) = run st ss

abbrev pub ends_of : Option (List Symbol) → ℕ
ends_of none = 0
ends_of (some ss) = first_ends ss

-- what begins an operand, up to the offset n
abbrev pub BeginsAs : List ℕ → ℕ → First → ℕ → Type 0
BeginsAs s at (first.Number v) n = SymbolAt s at (number v) n
BeginsAs s at (first.Letter i) n = SymbolAt s at (letter i) n × (i < 21)
BeginsAs s at first.Minus n = SymbolAt s at (operator operators.Minus) n
BeginsAs s at first.Not n = SymbolAt s at not_sign n
BeginsAs s at first.Open n = SymbolAt s at open_paren n

-- the same, or that no operand stands there
abbrev pub Begins : List ℕ → ℕ → Maybe (First × ℕ) → Type 0
Begins s at (Some r) = BeginsAs s at r.0 r.1
Begins s at None = (k : Stack) → from (wanted k) (syms s at) ≡ none

-- what goes on at a level, up to the offset n
abbrev pub JoinsAs : List ℕ → ℕ → ℕ → Joint → ℕ → Type 0
JoinsAs s at l (joint.By o) n = SymbolAt s at (operator o) n × (l ≤ level o)
JoinsAs s at l joint.Choice n = SymbolAt s at question n × (l ≡ 0)

-- the same, or that nothing goes on
abbrev pub Joins : List ℕ → ℕ → ℕ → Maybe (Joint × ℕ) → Type 0
Joins s at l (Some r) = JoinsAs s at l r.0 r.1
Joins s at l None = ends_of (syms s at) ≤ l

-- the sign that the top of a stack awaits behind a tree
abbrev pub awaited : Stack → List ℕ
awaited [] = []
awaited (begun b ∷ k) = []
awaited (paren ∷ k) = bytes ")"
awaited (if_of c ∷ k) = bytes ":"

-- the byte b, which is a sign by itself, or that no stack goes on that awaits it
abbrev pub MarkAt : List ℕ → ℕ → ℕ → Maybe ℕ → Type 0
MarkAt s at b (Some n) = (x : Symbol) → ((y : List ℕ) → start b y ≡ sign x 0) → SymbolAt s at x n
MarkAt s at b None =
    (k : Stack) → awaited k ≡ b ∷ [] → (t : Tree) → ends_of (syms s at) ≤ 0 → from (have t k) (syms s at) ≡ none

abbrev pub IsEnd : List ℕ → ℕ → Bool → Type 0
IsEnd s at true = syms s at ≡ some []
IsEnd s at false = (t : Tree) → ends_of (syms s at) ≤ 0 → from (have t []) (syms s at) ≡ none
