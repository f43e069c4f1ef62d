-- The reader follows every derivation.
use Rattle.std.specs.Prelude.{◌≡◌, refl, List, [], ◌∷◌, ℕ, suc, ◌≤◌}
use Rattle.std.proofs.Common.{◌∙◌, arith, le-leb}
use Rattle.std.proofs.lemmas.Bool.{lt-leb}
use Rattle.spec_calc.specs.Symbol.{Symbol}
use Rattle.spec_calc.specs.Expression.{Tree, level, prefix_level, Expression, plain, conditional, Joined, tighter, join, prefixed, Operand, negated}
use Rattle.spec_calc.specs.Expression.{denied, a_number, a_letter, parenthesised}
use Rattle.spec_calc.specs.Reader.{Begun, minus_of, not_of, left_of, else_of, ended, tightness, begun, paren, if_of, Stack, wanted, have, ends, reduce}
use Rattle.spec_calc.specs.Reader.{run, first_ends, top}
use Rattle.spec_calc.proofs.laws.Levels.{ends_bound}

first_ends_bound : (s : List Symbol) → first_ends s ≤ prefix_level
first_ends_bound [] = omega arith
first_ends_bound (x ∷ s) = ends_bound x

-- what is looser stays
stays : (l : ℕ) (t : Tree) (k : Stack) → top k ≤ l → reduce (suc l) t k ≡ (t, k)
unfolding reduce
stays l t [] h = refl
stays l t (begun b ∷ k) h = rw (lt-leb (suc l) (tightness b) (omega arith), reduce)
stays l t (paren ∷ k) h = refl
stays l t (if_of c ∷ k) h = refl

-- what is as tight takes the tree at once
takes : (b : Begun) (t : Tree) (k : Stack) (r : List Symbol) → first_ends r ≤ tightness b → run (have t (begun b ∷ k)) r ≡ run (have (ended b t) k) r
unfolding reduce run
takes b t k [] h = rw (le-leb 0 (tightness b) h, reduce)
takes b t k (x ∷ r) h = rw (le-leb (ends x) (tightness b) h, reduce)

-- From any stack that leaves the tree alone, the reader passes over what is derived, and has its tree.
mutual
  unfolding reduce run

  pub expression_read : {s r : List Symbol} {t : Tree} → Expression s r t → (k : Stack) → top k ≤ 0 → first_ends r ≤ 0 → run (wanted k) s ≡ run (have t k) r
  expression_read (plain d) k h e = joined_read d k h (omega arith)
  expression_read {r = r} (conditional {c = c} {x = x} {y = y} d₁ d₂ d₃) k h e =
      joined_read d₁ k h (omega arith)
      ∙ rw (stays 0 c k h, run)
      (expression_read d₂ (if_of c ∷ k) (omega arith) (omega arith)
      ∙ (expression_read d₃ (begun (else_of c x) ∷ k) (omega arith) e ∙ takes (else_of c x) y k r e))

  pub joined_read :
      {l : ℕ} {s r : List Symbol} {t : Tree} → Joined l s r t → (k : Stack) → top k ≤ l → first_ends r ≤ suc l → run (wanted k) s ≡ run (have t k) r
  joined_read (tighter d) k h e = joined_read d k (omega arith) (omega arith)
  joined_read {r = r} (join {o = o} {t = t} {u = u} p d₁ d₂) k h e =
      joined_read d₁ k h (omega arith)
      ∙ rw (stays (level o) t k (omega arith), run)
      (joined_read d₂ (begun (left_of o t) ∷ k) (omega arith) (omega arith) ∙ takes (left_of o t) u k r (omega arith))
  joined_read (prefixed d) k h e = operand_read d k

  pub operand_read : {s r : List Symbol} {t : Tree} → Operand s r t → (k : Stack) → run (wanted k) s ≡ run (have t k) r
  operand_read {r = r} (negated {t = t} d) k = operand_read d (begun minus_of ∷ k) ∙ takes minus_of t k r (omega (arith, first_ends_bound r))
  operand_read {r = r} (denied {t = t} d) k = operand_read d (begun not_of ∷ k) ∙ takes not_of t k r (omega (arith, first_ends_bound r))
  operand_read a_number k = refl
  operand_read a_letter k = refl
  operand_read (parenthesised d) k = expression_read d (paren ∷ k) (omega arith) (omega arith)
