-- The grammar of a calculation by 01's levels, as productions. No reader stands here.
use Rattle.std.specs.Prelude.{◌≡◌, List, [], ◌∷◌, ℕ, suc, ◌≤◌, length, Float}
use Rattle.spec_calc.specs.declared.Operator.{Operator}
use Rattle.spec_calc.specs.declared.Operator.TheVariants.{Or, And, Less, AtMost, More, AtLeast, Equal, Differs, Plus, Minus, Times, Over}
use Rattle.spec_calc.specs.Symbol.{Symbol, number, letter, operator, not_sign, question, colon, open_paren, close_paren, Spells}

-- what a calculation says
pub data Tree : Type 0 where
  number_tree : Float → Tree
  letter_tree : ℕ → Tree
  minus negation : Tree → Tree
  binary : Operator → Tree → Tree → Tree
  choice : Tree → Tree → Tree → Tree

-- 01: "Loosest first: [..] `||`; `&&`; `< <= > >= = == # !=`; `+ -`; `* /`; prefixes"
abbrev pub level : Operator → ℕ
level Or = 0
level And = 1
level Less = 2
level AtMost = 2
level More = 2
level AtLeast = 2
level Equal = 2
level Differs = 2
level Plus = 3
level Minus = 3
level Times = 4
level Over = 4

abbrev pub prefix_level : ℕ
prefix_level = 5

-- X s r t: the symbols s are an X that says t, and then r.
mutual
  -- 01: "`c ? x : y` (grouping to the right)"
  pub data Expression : List Symbol → List Symbol → Tree → Type 0 where
    plain : {s r : List Symbol} {t : Tree} → Joined 0 s r t → Expression s r t
    conditional :
        {s s' s'' r : List Symbol} {c x y : Tree}
        → Joined 0 s (question ∷ s') c
        → Expression s' (colon ∷ s'') x
        → Expression s'' r y
        → Expression s r (choice c x y)

  -- the operators of a level, and all tighter. 01: "Binary operators group to the left."
  pub data Joined : ℕ → List Symbol → List Symbol → Tree → Type 0 where
    tighter : {l : ℕ} {s r : List Symbol} {t : Tree} → Joined (suc l) s r t → Joined l s r t
    join :
        {l : ℕ} {o : Operator} {s s' r : List Symbol} {t u : Tree}
        → level o ≡ l
        → Joined l s (operator o ∷ s') t
        → Joined (suc l) s' r u
        → Joined l s r (binary o t u)
    prefixed : {s r : List Symbol} {t : Tree} → Operand s r t → Joined prefix_level s r t

  -- 01: "prefixes `-` and `!`, repeatable; number, letter A to U in either case, parentheses"
  pub data Operand : List Symbol → List Symbol → Tree → Type 0 where
    negated : {s r : List Symbol} {t : Tree} → Operand s r t → Operand (operator Minus ∷ s) r (minus t)
    denied : {s r : List Symbol} {t : Tree} → Operand s r t → Operand (not_sign ∷ s) r (negation t)
    a_number : {v : Float} {r : List Symbol} → Operand (number v ∷ r) r (number_tree v)
    a_letter : {i : ℕ} {r : List Symbol} → Operand (letter i ∷ r) r (letter_tree i)
    parenthesised : {s r : List Symbol} {t : Tree} → Expression s (close_paren ∷ r) t → Operand (open_paren ∷ s) r t

-- 01, of refusal 5: "79 [bytes are allowed] in a calculation"
abbrev pub longest_calculation : ℕ
longest_calculation = 79

-- the text s is a calculation, and says t
pub record Parses (s : List ℕ) (t : Tree) : Type 0 where
  pub short : length s ≤ longest_calculation
  pub spelled : List Symbol
  pub spelling : Spells s spelled
  pub derived : Expression spelled [] t
