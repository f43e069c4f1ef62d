-- The reader of a calculation: a stack of what is begun, and one step for each symbol.
use Rattle.std.specs.Prelude.{true, false, cond, List, [], ◌∷◌, ℕ, suc, leb, length}
use Rattle.std.proofs.Math.Option.{Option, none, some}
use Rattle.spec_calc.specs.declared.Operator.{Operator}
use Rattle.spec_calc.specs.declared.Operator.TheVariants.{Or, And, Less, AtMost, More, AtLeast, Equal, Differs, Plus, Minus, Times, Over}
use Rattle.spec_calc.specs.Symbol.{Symbol, number, letter, operator, not_sign, question, colon, open_paren, close_paren}
use Rattle.spec_calc.specs.Scanner.{symbols}
use Rattle.spec_calc.specs.Expression.{Tree, number_tree, letter_tree, minus, negation, binary, choice, level, prefix_level, longest_calculation}

-- a tree that lacks its last part: a prefix, an operator with its left side, a condition with its first branch
pub data Begun : Type 0 where
  minus_of not_of : Begun
  left_of : Operator → Tree → Begun
  else_of : Tree → Tree → Begun

abbrev pub ended : Begun → Tree → Tree
ended minus_of t = minus t
ended not_of t = negation t
ended (left_of o u) t = binary o u t
ended (else_of c x) t = choice c x t

-- conditionals are loosest, then come the levels, and prefixes
abbrev pub tightness : Begun → ℕ
tightness minus_of = suc prefix_level
tightness not_of = suc prefix_level
tightness (left_of o u) = suc (level o)
tightness (else_of c x) = 0

-- what waits for a tree
pub data Frame : Type 0 where
  begun : Begun → Frame
  paren : Frame
  if_of : Tree → Frame

abbrev pub Stack : Type 0
Stack = List Frame

-- an operand is wanted, a tree is there, or the symbols so far begin no calculation
pub data State : Type 0 where
  wanted : Stack → State
  have : Tree → Stack → State
  stuck : State

-- Behind a tree a symbol ends what is begun, if it is of this tightness or more.
abbrev pub ends : Symbol → ℕ
ends (number v) = 0
ends (letter i) = 0
ends (operator o) = suc (level o)
ends not_sign = 0
ends question = 1
ends colon = 0
ends open_paren = 0
ends close_paren = 0

-- what is begun on top of the stack, of tightness l or more, takes the tree
unfoldable pub reduce : ℕ → Tree → Stack → Tree × Stack
reduce l t [] = (t, [])
reduce l t (begun b ∷ k) = elim (leb l (tightness b)) [ true ↦ reduce l (ended b t) k | false ↦ (t, begun b ∷ k) ]
reduce l t (paren ∷ k) = (t, paren ∷ k)
reduce l t (if_of c ∷ k) = (t, if_of c ∷ k)

-- an operator where an operand is wanted
abbrev pub prefix : Operator → Stack → State
prefix Or k = stuck
prefix And k = stuck
prefix Less k = stuck
prefix AtMost k = stuck
prefix More k = stuck
prefix AtLeast k = stuck
prefix Equal k = stuck
prefix Differs k = stuck
prefix Plus k = stuck
prefix Minus k = wanted (begun minus_of ∷ k)
prefix Times k = stuck
prefix Over k = stuck

-- a symbol where an operand is wanted
abbrev pub first_of : Symbol → Stack → State
first_of (number v) k = have (number_tree v) k
first_of (letter i) k = have (letter_tree i) k
first_of (operator o) k = prefix o k
first_of not_sign k = wanted (begun not_of ∷ k)
first_of question k = stuck
first_of colon k = stuck
first_of open_paren k = wanted (paren ∷ k)
first_of close_paren k = stuck

-- `:` behind a tree: a condition waits for its first branch
abbrev pub other_branch : Tree → Stack → State
other_branch t [] = stuck
other_branch t (begun b ∷ k) = stuck
other_branch t (paren ∷ k) = stuck
other_branch t (if_of c ∷ k) = wanted (begun (else_of c t) ∷ k)

-- `)` behind a tree
abbrev pub out_of_paren : Tree → Stack → State
out_of_paren t [] = stuck
out_of_paren t (begun b ∷ k) = stuck
out_of_paren t (paren ∷ k) = have t k
out_of_paren t (if_of c ∷ k) = stuck

-- a symbol behind a tree
abbrev pub behind : Symbol → Tree × Stack → State
behind (number v) p = stuck
behind (letter i) p = stuck
behind (operator o) p = wanted (begun (left_of o p.0) ∷ p.1)
behind not_sign p = stuck
behind question p = wanted (if_of p.0 ∷ p.1)
behind colon p = other_branch p.0 p.1
behind open_paren p = stuck
behind close_paren p = out_of_paren p.0 p.1

abbrev pub step : State → Symbol → State
step (wanted k) x = first_of x k
step (have t k) x = behind x (reduce (ends x) t k)
step stuck x = stuck

-- the tree, if nothing waits for it
abbrev pub alone : Tree × Stack → Option Tree
alone p = elim p.1 [ [] ↦ some p.0 | f ∷ k ↦ none ]

abbrev pub finish : State → Option Tree
finish (wanted k) = none
finish (have t k) = alone (reduce 0 t k)
finish stuck = none

unfoldable pub run : State → List Symbol → Option Tree
run st [] = finish st
run st (x ∷ s) = run (step st x) s

abbrev pub read_tree : List Symbol → Option Tree
read_tree s = run (wanted []) s

abbrev pub read_spelled : Option (List Symbol) → Option Tree
read_spelled none = none
read_spelled (some s) = read_tree s

-- what a text says, if it is a calculation; a longer text is none, whatever it spells
unfoldable pub tree_of : List ℕ → Option Tree
tree_of s = cond (leb (length s) longest_calculation) (read_spelled (symbols s)) none

-- what the first symbol ends, or the end of the symbols
abbrev pub first_ends : List Symbol → ℕ
first_ends [] = 0
first_ends (x ∷ s) = ends x

-- the tightness of what is begun on top of the stack
abbrev pub top : Stack → ℕ
top [] = 0
top (begun b ∷ k) = tightness b
top (paren ∷ k) = 0
top (if_of c ∷ k) = 0
