-- Laws of inputs from states and values.
use Rattle.std.specs.Prelude.{◌≡◌, Bool, true, false, cond, List, eqb, length, get_or, Float}
use Rattle.std.proofs.Math.Path.{refl, ap}
use Rattle.std.proofs.Common.{◌∙◌, ne_eqb}
use Prim.Native.Nat.{ℕ, zero, suc, ◌+◌, ◌<◌}
use native.Mathlib.Omega.{arith}
use Rattle.spec_calc.specs.declared.Reading.TheVariants.{NeverHeard, Invalid}
use Rattle.spec_calc.specs.Value.{heard, good, zero_value}
use Rattle.spec_calc.specs.States.{reading, reading_at, readings_from, readings}

-- a state that has no value, whichever it is
silent : (b : Bool) → zero_value ≡ heard (cond b NeverHeard Invalid)
silent true = refl
silent false = refl

bad : (b : Bool) → false ≡ good (cond b NeverHeard Invalid)
bad true = refl
bad false = refl

-- by its state
module _ (n : ℕ) (x : Float) where
  pub heard_value : n ≡ 2 → x ≡ heard (reading n x)
  heard_value e = rw e refl

  pub heard_nothing : (n ≡ 2 → ⊥) → zero_value ≡ heard (reading n x)
  heard_nothing h = rw (ne_eqb n 2 h) (silent (eqb n 0))

  pub good_value : {g : Bool} → g ≡ good (reading 2 x) → n ≡ 2 → g ≡ good (reading n x)
  good_value f e = rw e f

  pub good_nothing : (n ≡ 2 → ⊥) → false ≡ good (reading n x)
  good_nothing h = rw (ne_eqb n 2 h) (bad (eqb n 0))

module _ (states : List ℕ) (values : List Float) where
  -- the j-th of n readings
  at_from : (k n j : ℕ) → j < n → reading_at states values (k + j) ≡ get_or (readings_from states values k n) j NeverHeard
  unfolding readings_from
  at_from k zero j h = absurd (omega arith)
  at_from k (suc n) zero h = let e : k + 0 ≡ k = omega arith in ap (reading_at states values) e
  at_from k (suc n) (suc j) h =
      let e : k + suc j ≡ (k + 1) + j = omega arith in
      ap (reading_at states values) e ∙ at_from (k + 1) n j (omega arith)

  pub at : (k j : ℕ) → j < 21 → reading_at states values (k + j) ≡ get_or (readings states values k) j NeverHeard
  at k j h = at_from k 21 j h

  pub many : (k : ℕ) → length (readings states values k) ≡ 21
  unfolding readings_from
  many k = refl
