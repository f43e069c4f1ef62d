-- Whether there is an element, as the code finds it from counts.
use Rattle.std.specs.Prelude.{◌≡◌, refl, Bool, true, false, not, ◌&&◌, ◌||◌, List, [], ◌∷◌, ◌++◌, map, ℕ, zero, suc, ◌+◌, ◌≤◌, eqb, length, take, drop}
use Rattle.std.proofs.Common.{◌∙◌, zero-add, suc-add, arith, length-drop, ne_eqb}
use Rattle.spec_lists.specs.Select.{nonempty, joined}
use Rattle.spec_lists.specs.Runs.{Run, part}
use Rattle.spec_lists.proofs.laws.Runs.{Within}
use Rattle.spec_table.specs.Check.{no_calculation}
use Rattle.spec_table.specs.Policy.{set_bit}
use Rattle.spec_text.specs.Lines.{headed}

-- one of two numbers is not 0
pub set_bit_sum : (a b : ℕ) → set_bit (a + b) ≡ set_bit a || set_bit b
set_bit_sum zero b = rw (zero-add b)
set_bit_sum (suc a) b = rw (suc-add a b)

-- a number that is not 0 is a bit that is set
pub bit_there : (k : ℕ) → (k ≡ 0 → ⊥) → set_bit k ≡ true
bit_there zero h = absurd (h refl)
bit_there (suc k) h = refl

module _ {A : Type 0} where
  pub nonempty_append : (xs ys : List A) → nonempty (xs ++ ys) ≡ nonempty xs || nonempty ys
  nonempty_append [] ys = refl
  nonempty_append (x ∷ xs) ys = refl

  first_of : (k : ℕ) (xs : List A) → k ≤ length xs → nonempty (take k xs) ≡ set_bit k
  first_of zero xs h = refl
  first_of (suc k) [] h = absurd (omega arith)
  first_of (suc k) (x ∷ xs) h = refl

  pub nonempty_run : (r : Run) (xs : List A) → Within (length xs) r → nonempty (part r xs) ≡ set_bit r.count
  nonempty_run r xs h = first_of r.count (drop r.first xs) (omega (arith, length-drop r.first xs))

module _ {A B : Type 0} where
  pub nonempty_map : (f : A → B) (xs : List A) → nonempty (map f xs) ≡ nonempty xs
  nonempty_map f [] = refl
  nonempty_map f (x ∷ xs) = refl

  pub nonempty_joined : (f : A → List B) → ((x : A) → nonempty (f x) ≡ true) → (xs : List A) → nonempty (joined (map f xs)) ≡ nonempty xs
  nonempty_joined f h [] = refl
  nonempty_joined f h (x ∷ xs) = nonempty_append (f x) (joined (map f xs)) ∙ rw (h x)

-- a definition has its head
pub nonempty_headed : (head : List ℕ) (ls : List (List ℕ)) → nonempty (headed head ls) ≡ true
nonempty_headed head [] = refl
nonempty_headed head (l ∷ ls) = refl

pub zero_bit : (n : ℕ) → eqb n 0 ≡ not (set_bit n)
zero_bit zero = refl
zero_bit (suc n) = ne_eqb (suc n) 0 (λ e. omega arith)

-- a run that is not 0, 0
pub calculation_bit : (r : Run) → not (no_calculation r) ≡ set_bit (r.first + r.count)
calculation_bit r = rw (zero_bit r.first, zero_bit r.count, set_bit_sum r.first r.count) (by (set_bit r.first) (set_bit r.count))
  where
    by : (a b : Bool) → not (not a && not b) ≡ a || b
    by true b = refl
    by false true = refl
    by false false = refl
