-- Laws of readings from states and values.
use Rattle.std.specs.Prelude.{◌≡◌, length, take, set, Float}
use Rattle.std.proofs.Math.Path.{refl, ap}
use Rattle.std.proofs.Common.{sym, ap₂, ◌∙◌, add-one, length-set, take_all, take-suc-set, eq-eqb, ne_eqb}
use mathlib.Core.List.{List, [], ◌∷◌, ◌++◌}
use Prim.Native.Nat.{ℕ, zero, suc, ◌+◌, ◌≤◌, ◌<◌}
use native.Mathlib.Omega.{arith}
use Rattle.spec_calc.specs.declared.Reading.{Reading}
use Rattle.spec_calc.specs.declared.Reading.TheVariants.{NeverHeard, Invalid, Value}
use Rattle.spec_calc.specs.States.{reading, reading_at, readings_from, readings}

-- by its state
module _ (n : ℕ) (x : Float) where
  pub unheard : n ≡ 0 → NeverHeard ≡ reading n x
  unheard a = rw (eq-eqb n 0 a)

  pub valued : (n ≡ 0 → ⊥) → n ≡ 2 → Value x ≡ reading n x
  valued a b = rw (ne_eqb n 0 a, eq-eqb n 2 b)

  pub invalid : (n ≡ 0 → ⊥) → (n ≡ 2 → ⊥) → Invalid ≡ reading n x
  invalid a b = rw (ne_eqb n 0 a, ne_eqb n 2 b)

module _ (states : List ℕ) (values : List Float) where
  -- one reading more behind
  readings_more : (k n : ℕ) → readings_from states values k (n + 1) ≡ readings_from states values k n ++ (reading_at states values (k + n) ∷ [])
  unfolding readings_from
  readings_more k zero = let e : k ≡ k + 0 = omega arith in ap (λ (j : ℕ). reading_at states values j ∷ []) e
  readings_more k (suc n) =
      let e : suc n + 1 ≡ suc (n + 1) = omega arith in
      let g : (k + 1) + n ≡ k + suc n = omega arith in
      ap (readings_from states values k) e
      ∙ ap (λ (l : List Reading). reading_at states values k ∷ l)
      (readings_more (k + 1) n ∙ ap (λ (j : ℕ). readings_from states values (k + 1) n ++ (reading_at states values j ∷ [])) g)

  -- the first i of the readings stand
  pub record StandTo (k : ℕ) (rs : List Reading) (i : ℕ) : Type 0 where
    pub whole : length rs ≡ 21
    pub within : i ≤ 21
    pub stand : take i rs ≡ readings_from states values k i

  pub stand_none : (k : ℕ) (rs : List Reading) → length rs ≡ 21 → StandTo k rs 0
  unfolding readings_from
  stand_none k rs w = record { whole = w; within = omega arith; stand = refl }

  pub stand_more :
      {k : ℕ} {rs : List Reading} {i : ℕ} {r : Reading} → StandTo k rs i → i < 21 → r ≡ reading_at states values (k + i)
      → StandTo k (set rs i r) (i + 1)
  stand_more {k} {rs} {i} {r} h l e =
      let w = h.whole in
      record {
        whole = length-set rs i r ∙ w;
        within = omega arith;
        stand =
            ap (λ (j : ℕ). take j (set rs i r)) (add-one i)
            ∙ take-suc-set rs i r (omega arith)
            ∙ ap₂ (λ (l : List Reading) (q : Reading). l ++ (q ∷ [])) h.stand e
            ∙ sym (readings_more k i);
      }

  pub stand_all : {k : ℕ} {rs : List Reading} {i : ℕ} → StandTo k rs i → 21 ≤ i → rs ≡ readings states values k
  stand_all {k} {rs} {i} h l =
      let w = h.whole in
      let b = h.within in
      let e : i ≡ 21 = omega arith in
      sym (take_all i rs (omega arith)) ∙ (h.stand ∙ ap (readings_from states values k) e)
