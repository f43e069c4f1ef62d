-- What the reader has read is derived.
use Rattle.std.specs.Prelude.{◌≡◌, Bool, ℕ, zero, suc, ◌≤◌, ◌<◌}
use Rattle.std.proofs.Math.Path.{refl}
use Rattle.std.proofs.Math.Bool.{true, false}
use mathlib.Core.List.{List, [], ◌∷◌}
use Rattle.std.proofs.Common.{⊎_elim, eq-or-lt_of_le, le_refl, arith}
use Rattle.std.proofs.Math.Option.{Option, none, some}
use Rattle.std.proofs.Math.Dec.{leb}
use borrow.Author.Tests.{leb-true, leb-false}
use Rattle.spec_calc.specs.declared.Operator.{Operator}
use Rattle.spec_calc.specs.declared.Operator.TheVariants.{Or, And, Less, AtMost, More, AtLeast, Equal, Differs, Plus, Minus, Times, Over}
use Rattle.spec_calc.specs.Symbol.{Symbol, number, letter, operator, not_sign, question, colon, open_paren, close_paren}
use Rattle.spec_calc.specs.Expression.{Tree, level, prefix_level, Expression, plain, conditional, Joined, tighter, join, prefixed, Operand, negated}
use Rattle.spec_calc.specs.Expression.{denied, a_number, a_letter, parenthesised}
use Rattle.spec_calc.specs.Reader.{Begun, minus_of, not_of, left_of, else_of, ended, tightness, begun, paren, if_of, Stack, State, wanted, have, stuck}
use Rattle.spec_calc.specs.Reader.{ends, reduce, prefix, first_of, other_branch, out_of_paren, behind, step, alone, run, read_tree}
use Rattle.spec_calc.proofs.laws.Levels.{level_bound, ends_bound}

-- the symbols s are something of that tightness or more, that says t, and then r
abbrev At : ℕ → List Symbol → List Symbol → Tree → Type 0
At zero s r t = Expression s r t
At (suc l) s r t = Joined l s r t

looser : (l : ℕ) (s r : List Symbol) (t : Tree) → At (suc l) s r t → At l s r t
looser zero s r t d = plain d
looser (suc l) s r t d = tighter d

lower : (m l : ℕ) (s r : List Symbol) (t : Tree) → l ≤ m → At m s r t → At l s r t
lower zero zero s r t h d = d
lower zero (suc l) s r t h d = absurd (omega arith)
lower (suc m) l s r t h d = ⊎_elim (λ e. rw e d) (λ (g : l < suc m). lower m l s r t (omega arith) (looser m s r t d)) (eq-or-lt_of_le h)

-- the tightness of the part that is lacking
abbrev last_part : Begun → ℕ
last_part minus_of = suc prefix_level
last_part not_of = suc prefix_level
last_part (left_of o u) = suc (suc (level o))
last_part (else_of c x) = 0

-- the tightness that a tree must have for what waits
abbrev need : Stack → ℕ
need [] = 0
need (begun b ∷ k) = last_part b
need (paren ∷ k) = 0
need (if_of c ∷ k) = 0

part_bound : (b : Begun) → (last_part b ≤ suc prefix_level) × (last_part b ≤ suc (tightness b)) × (last_part b ≤ 1 → last_part b ≤ 0)
part_bound minus_of = omega arith
part_bound not_of = omega arith
part_bound (left_of o u) = omega (arith, level_bound o)
part_bound (else_of c x) = omega arith

need_bound : (k : Stack) → (need k ≤ suc prefix_level) × (need k ≤ 1 → need k ≤ 0)
need_bound [] = omega arith
need_bound (begun b ∷ k) = ((part_bound b).0, (part_bound b).2)
need_bound (paren ∷ k) = omega arith
need_bound (if_of c ∷ k) = omega arith

-- nothing but an operand is as tight as a prefix
operand_of : {l : ℕ} {s r : List Symbol} {t : Tree} → Joined l s r t → prefix_level ≤ l → Operand s r t
operand_of (tighter d) h = operand_of d (omega arith)
operand_of (join {o = o} p d e) h = absurd (omega (arith, level_bound o))
operand_of (prefixed d) h = d

module _ (full : List Symbol) where
  -- All symbols but s have been read, and k waits. What is begun is tight enough for what waits below.
  data Context : Stack → List Symbol → Type 0 where
    start : Context [] full
    within :
        {b : Begun} {k : Stack} {s s₀ : List Symbol}
        → Context k s₀
        → need k ≤ tightness b
        → ((r : List Symbol) (t : Tree) → At (last_part b) s r t → At (tightness b) s₀ r (ended b t))
        → Context (begun b ∷ k) s
    in_paren : {k : Stack} {s : List Symbol} → Context k (open_paren ∷ s) → Context (paren ∷ k) s
    in_if : {k : Stack} {s s₀ : List Symbol} {c : Tree} → Context k s₀ → need k ≤ 0 → Joined 0 s₀ (question ∷ s) c → Context (if_of c ∷ k) s

  -- with s left the reader is in that state
  data Reached : State → List Symbol → Type 0 where
    wants : {k : Stack} {s : List Symbol} → Context k s → Reached (wanted k) s
    has : {k : Stack} {s s₀ : List Symbol} {t : Tree} → Context k s₀ → Operand s₀ s t → Reached (have t k) s
    nothing : {s : List Symbol} → Reached stuck s

  -- with r left there is a tree of that tightness, and it is enough for what waits
  record Reduced (l : ℕ) (r : List Symbol) (p : Tree × Stack) : Type 0 where
    from : List Symbol
    context : Context p.1 from
    enough : need p.1 ≤ l
    tree : At l from r p.0

  module _ (l : ℕ) (r : List Symbol) where
    reduce_more :
        (b : Begun) (t : Tree) (k : Stack)
        → (l ≤ tightness b → Reduced l r (reduce l (ended b t) k))
        → (last_part b ≤ l → Reduced l r (t, begun b ∷ k))
        → Reduced l r (reduce l t (begun b ∷ k))
    unfolding reduce
    reduce_more b t k more stop = go (leb l (tightness b)) refl
      where
        go : (x : Bool) → leb l (tightness b) ≡ x → Reduced l r (reduce l t (begun b ∷ k))
        go true e = rw (e, reduce) (more (leb-true l (tightness b) e))
        go false e = rw (e, reduce) (stop (omega (arith, (part_bound b).1, leb-false l (tightness b) e)))

    reduced :
        {k : Stack} {s : List Symbol} → Context k s → (m : ℕ) (t : Tree) → need k ≤ m → l ≤ m → ((n : ℕ) → n ≤ m → At n s r t) → Reduced l r (reduce l t k)
    unfolding reduce
    reduced start m t h g d = record { from = full; context = start; enough = omega arith; tree = d l g }
    reduced (within {b = b} {k = k} {s = s} {s₀ = s₀} c n f) m t h g d =
        reduce_more b t k
        (λ e. reduced c (tightness b) (ended b t) n e (λ i j. lower (tightness b) i s₀ r (ended b t) j (f r t (d (last_part b) h))))
        (λ e. record { from = s; context = within c n f; enough = e; tree = d l g })
    reduced (in_paren {s = s} c) m t h g d = record { from = s; context = in_paren c; enough = omega arith; tree = d l g }
    reduced (in_if {s = s} c n e) m t h g d = record { from = s; context = in_if c n e; enough = omega arith; tree = d l g }

    operand_reduced : {k : Stack} {s : List Symbol} {t : Tree} → Context k s → Operand s r t → l ≤ prefix_level → Reduced l r (reduce l t k)
    operand_reduced {k} {s} {t} c d h =
        reduced c (suc prefix_level) t (need_bound k).0 (omega arith) (λ n g. lower (suc prefix_level) n s r t g (prefixed d))

  -- each step leads on from what is reached
  prefix_reached : (o : Operator) {k : Stack} {s : List Symbol} → Context k (operator o ∷ s) → Reached (prefix o k) s
  prefix_reached Or c = nothing
  prefix_reached And c = nothing
  prefix_reached Less c = nothing
  prefix_reached AtMost c = nothing
  prefix_reached More c = nothing
  prefix_reached AtLeast c = nothing
  prefix_reached Equal c = nothing
  prefix_reached Differs c = nothing
  prefix_reached Plus c = nothing
  prefix_reached Minus {k} c = wants (within c (need_bound k).0 (λ r t d. prefixed (negated (operand_of d (le_refl prefix_level)))))
  prefix_reached Times c = nothing
  prefix_reached Over c = nothing

  first_reached : (x : Symbol) {k : Stack} {s : List Symbol} → Context k (x ∷ s) → Reached (first_of x k) s
  first_reached (number v) c = has c a_number
  first_reached (letter i) c = has c a_letter
  first_reached (operator o) c = prefix_reached o c
  first_reached not_sign {k} c = wants (within c (need_bound k).0 (λ r t d. prefixed (denied (operand_of d (le_refl prefix_level)))))
  first_reached question c = nothing
  first_reached colon c = nothing
  first_reached open_paren c = wants (in_paren c)
  first_reached close_paren c = nothing

  branch_reached : {k : Stack} {s s₀ : List Symbol} {t : Tree} → Context k s₀ → Expression s₀ (colon ∷ s) t → Reached (other_branch t k) s
  branch_reached start d = nothing
  branch_reached (within c n f) d = nothing
  branch_reached (in_paren c) d = nothing
  branch_reached (in_if c n e) d = wants (within c n (λ r y. conditional e d))

  paren_reached : {k : Stack} {s s₀ : List Symbol} {t : Tree} → Context k s₀ → Expression s₀ (close_paren ∷ s) t → Reached (out_of_paren t k) s
  paren_reached start d = nothing
  paren_reached (within c n f) d = nothing
  paren_reached (in_paren c) d = has c (parenthesised d)
  paren_reached (in_if c n e) d = nothing

  behind_reached : (x : Symbol) {s : List Symbol} {p : Tree × Stack} → Reduced (ends x) (x ∷ s) p → Reached (behind x p) s
  behind_reached (number v) a = nothing
  behind_reached (letter i) a = nothing
  behind_reached (operator o) a = wants (within a.context a.enough (λ r u. join refl a.tree))
  behind_reached not_sign a = nothing
  behind_reached question {p = p} a = wants (in_if a.context ((need_bound p.1).1 a.enough) a.tree)
  behind_reached colon a = branch_reached a.context a.tree
  behind_reached open_paren a = nothing
  behind_reached close_paren a = paren_reached a.context a.tree

  step_reached : (x : Symbol) {s : List Symbol} {st : State} → Reached st (x ∷ s) → Reached (step st x) s
  step_reached x (wants c) = first_reached x c
  step_reached x {s} (has c d) = behind_reached x (operand_reduced (ends x) (x ∷ s) c d (ends_bound x))
  step_reached x nothing = nothing

  -- a tree that is given is that of all symbols
  abbrev pub Derived : Option Tree → Type 0
  Derived none = Unit
  Derived (some t) = Expression full [] t

  alone_derived : {k : Stack} {s : List Symbol} {t : Tree} → Context k s → Expression s [] t → Derived (alone (t, k))
  alone_derived start d = d
  alone_derived (within c n f) d = tt
  alone_derived (in_paren c) d = tt
  alone_derived (in_if c n e) d = tt

  run_derived : (s : List Symbol) {st : State} → Reached st s → Derived (run st s)
  unfolding run
  run_derived [] (wants c) = tt
  run_derived [] (has c d) = let a = operand_reduced 0 [] c d (omega arith) in alone_derived a.context a.tree
  run_derived [] nothing = tt
  run_derived (x ∷ s) a = run_derived s (step_reached x a)

  pub read_derived : Derived (read_tree full)
  read_derived = run_derived full (wants start)
