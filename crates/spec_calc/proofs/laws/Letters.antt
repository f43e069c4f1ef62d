-- The letters of a calculation's tree are those of its symbols, and each is one of A to U.
use Rattle.std.specs.Prelude.{◌≡◌, refl, Bool, true, false, ℕ, ◌≤◌, ◌-◌}
use Rattle.std.proofs.Common.{sym, ◌∙◌, arith}
use mathlib.Core.List.{List, [], ◌∷◌, ◌++◌, append-nil, append_assoc, Memᴰ}
use Rattle.spec_lists.specs.Every.{Every, nil, cons}
use Rattle.spec_lists.proofs.laws.Both.{absurd_bool}
use Rattle.spec_lists.proofs.laws.Member.{all_member}
use Rattle.spec_lists.proofs.laws.Range.{bounded}
use Rattle.spec_calc.specs.Symbol.{Symbol, number, letter, operator, not_sign, question, colon, open_paren, close_paren, Spelling, spellings}
use Rattle.spec_calc.specs.Symbol.{Spells, end, skipped, numbered, capital, small, signed}
use Rattle.spec_calc.specs.Expression.{Tree, Expression, plain, conditional, Joined, tighter, join, prefixed, Operand, negated, denied, a_number, a_letter}
use Rattle.spec_calc.specs.Expression.{parenthesised, Parses}
use Rattle.spec_calc.specs.Value.{letters}

-- the letters among some symbols
abbrev pub letter_of : Symbol → List ℕ
letter_of (number v) = []
letter_of (letter i) = i ∷ []
letter_of (operator o) = []
letter_of not_sign = []
letter_of question = []
letter_of colon = []
letter_of open_paren = []
letter_of close_paren = []

unfoldable pub letters_in : List Symbol → List ℕ
letters_in [] = []
letters_in (x ∷ ss) = letter_of x ++ letters_in ss

-- ---- a sign is no letter

abbrev pub nothing : List ℕ → Bool
nothing [] = true
nothing (i ∷ is) = false

pub nothing_is : (is : List ℕ) → nothing is ≡ true → is ≡ []
nothing_is [] e = refl
nothing_is (i ∷ is) e = absurd_bool (sym e)

pub sign_letters : {y : Spelling} → Memᴰ y spellings → letter_of y.symbol ≡ []
sign_letters {y} m = nothing_is (letter_of y.symbol) (all_member (λ x. nothing (letter_of x.symbol)) spellings refl m)

-- ---- the tree's

mutual
  unfolding letters_in

  expression_letters : {s r : List Symbol} {t : Tree} → Expression s r t → letters_in s ≡ letters t ++ letters_in r
  expression_letters (plain d) = joined_letters d
  expression_letters {r = r} (conditional {c = c} {x = x} {y = y} d₁ d₂ d₃) =
      joined_letters d₁
      ∙ rw (
        expression_letters d₂,
        expression_letters d₃,
        append_assoc (letters c) (letters x ++ letters y) (letters_in r),
        append_assoc (letters x) (letters y) (letters_in r),
      )
      refl

  joined_letters : {l : ℕ} {s r : List Symbol} {t : Tree} → Joined l s r t → letters_in s ≡ letters t ++ letters_in r
  joined_letters (tighter d) = joined_letters d
  joined_letters {r = r} (join {t = t} {u = u} p d₁ d₂) = joined_letters d₁ ∙ rw (joined_letters d₂, append_assoc (letters t) (letters u) (letters_in r)) refl
  joined_letters (prefixed d) = operand_letters d

  operand_letters : {s r : List Symbol} {t : Tree} → Operand s r t → letters_in s ≡ letters t ++ letters_in r
  operand_letters (negated d) = operand_letters d
  operand_letters (denied d) = operand_letters d
  operand_letters a_number = refl
  operand_letters a_letter = refl
  operand_letters (parenthesised d) = expression_letters d

-- those of a calculation's symbols are its tree's
pub parsed_letters : (s : List ℕ) (t : Tree) → (y : Parses s t) → letters_in y.spelled ≡ letters t
unfolding letters_in
parsed_letters s t y = expression_letters y.derived ∙ append-nil (letters t)

-- ---- 01: "letter A to U"

spelled_bounded : {s : List ℕ} {xs : List Symbol} → Spells s xs → Every (λ i. i ≤ 20) (letters_in xs)
unfolding letters_in
spelled_bounded end = nil
spelled_bounded (skipped e d) = spelled_bounded d
spelled_bounded (numbered n d) = spelled_bounded d
spelled_bounded (capital {b = b} e d) = let z = bounded 65 85 b e in cons {x = b - 65} (omega (arith, z.0, z.1)) (spelled_bounded d)
spelled_bounded (small {b = b} e d) = let z = bounded 97 117 b e in cons {x = b - 97} (omega (arith, z.0, z.1)) (spelled_bounded d)
spelled_bounded (signed q m l d) = rw (sign_letters m) (spelled_bounded d)

pub letters_bounded : (s : List ℕ) (t : Tree) → Parses s t → Every (λ i. i ≤ 20) (letters t)
letters_bounded s t y = rw (parsed_letters s t y) at (spelled_bounded y.spelling)
