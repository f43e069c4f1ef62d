-- The readings that states and values hold: one set, and none heard.
use Rattle.std.specs.Prelude.{◌≡◌, List, ◌≢◌, Float, length, get_or, set, replicate}
use Rattle.std.proofs.Math.Path.{refl, ap}
use Rattle.std.proofs.Common.{sym, ap₂, ◌∙◌, length-set, get_or-set_same, get_or-set_other, ext_get_or}
use Prim.Native.Nat.{ℕ, zero, suc, ◌+◌, ◌*◌, ◌<◌}
use native.Mathlib.Omega.{arith}
use Rattle.std.proofs.Math.Decide.{ℕ_discrete}
use Rattle.std.specs.Float.{nan}
use Rattle.std.proofs.lemmas.List.{length-replicate, get_or-replicate}
use Rattle.spec_calc.specs.declared.Reading.{Reading}
use Rattle.spec_calc.specs.declared.Reading.TheVariants.{NeverHeard, Invalid, Value}
use Rattle.spec_calc.specs.States.{reading, reading_at, readings_from}
use Rattle.spec_calc.specs.Value.{heard}
use Rattle.spec_register.specs.Register.{letters}
use Rattle.spec_places.specs.Storage.{readings_in}
use Rattle.spec_places.specs.Writing.{state_of}

-- what was heard is read again
state_read : (x : Reading) → reading (state_of x) (heard x) ≡ x
state_read NeverHeard = refl
state_read Invalid = refl
state_read (Value v) = refl

module _ (s : List ℕ) (v : List Float) where
  pub readings_count : (k n : ℕ) → length (readings_from s v k n) ≡ n
  unfolding readings_from
  readings_count k zero = refl
  readings_count k (suc n) = ap suc (readings_count (k + 1) n)

  pub readings_at : (k n j : ℕ) → j < n → get_or (readings_from s v k n) j NeverHeard ≡ reading_at s v (k + j)
  unfolding readings_from
  readings_at k zero j l = absurd (omega arith)
  readings_at k (suc n) zero l = let e : k ≡ k + 0 = omega arith in ap (reading_at s v) e
  readings_at k (suc n) (suc j) l =
      let e : k + 1 + j ≡ k + suc j = omega arith in
      readings_at (k + 1) n j (omega arith) ∙ ap (reading_at s v) e

  -- a list of readings that are these, one by one
  pub readings_are :
      (k n : ℕ) (rs : List Reading) → length rs ≡ n → ((j : ℕ) → j < n → reading_at s v (k + j) ≡ get_or rs j NeverHeard) → readings_from s v k n ≡ rs
  readings_are k n rs l h =
      ext_get_or
      NeverHeard
      (readings_from s v k n)
      rs
      (readings_count k n ∙ sym l)
      (λ j m. let i : j < n = omega (arith, readings_count k n) in readings_at k n j i ∙ h j i)

  pub none_heard : (k n : ℕ) → ((j : ℕ) → j < n → get_or s (k + j) 0 ≡ 0) → readings_from s v k n ≡ replicate n NeverHeard
  none_heard k n h =
      readings_are
      k
      n
      (replicate n NeverHeard)
      (length-replicate n NeverHeard)
      (λ j l. ap (λ (m : ℕ). reading m (get_or v (k + j) nan)) (h j l) ∙ sym (get_or-replicate n j NeverHeard NeverHeard l))

  module _ (at : ℕ) (x : Reading) where
    set_here : at < length s → at < length v → reading_at (set s at (state_of x)) (set v at (heard x)) at ≡ x
    set_here l m = ap₂ reading (get_or-set_same s at (state_of x) 0 l) (get_or-set_same v at (heard x) nan m) ∙ state_read x

    set_there : (k : ℕ) → k ≢ at → reading_at (set s at (state_of x)) (set v at (heard x)) k ≡ reading_at s v k
    set_there k d = ap₂ reading (get_or-set_other s at k (state_of x) 0 d) (get_or-set_other v at k (heard x) nan d)

-- ---- one reading of one group

module _ (s : List ℕ) (v : List Float) (i letter : ℕ) (x : Reading) (l : letter < letters) where
  abbrev at : ℕ
  at = i * letters + letter

  -- "Setting one reading changes that one place among its group's 21."
  pub reading_set :
      at < length s → at < length v → readings_in (set s at (state_of x)) (set v at (heard x)) i ≡ set (readings_in s v i) letter x
  reading_set m n =
      readings_are
      (set s at (state_of x))
      (set v at (heard x))
      (i * letters)
      letters
      (set (readings_in s v i) letter x)
      (length-set (readings_in s v i) letter x ∙ readings_count s v (i * letters) letters)
      (λ j k. by j k (ℕ_discrete j letter))
    where
      by :
          (j : ℕ) → j < letters → Dec (j ≡ letter)
          → reading_at (set s at (state_of x)) (set v at (heard x)) (i * letters + j) ≡ get_or (set (readings_in s v i) letter x) j NeverHeard
      by j k (yes e) =
          rw e
          (set_here s v at x m n
          ∙ sym (get_or-set_same (readings_in s v i) letter x NeverHeard (omega (arith, readings_count s v (i * letters) letters))))
      by j k (no d) =
          set_there s v at x (i * letters + j) (λ e. d (omega arith))
          ∙ sym (get_or-set_other (readings_in s v i) letter j x NeverHeard d ∙ readings_at s v (i * letters) letters j k)

  -- other groups' stay
  pub reading_kept : (q : ℕ) → q ≢ i → readings_in (set s at (state_of x)) (set v at (heard x)) q ≡ readings_in s v q
  reading_kept q d =
      readings_are
      (set s at (state_of x))
      (set v at (heard x))
      (q * letters)
      letters
      (readings_in s v q)
      (readings_count s v (q * letters) letters)
      (λ j k. set_there s v at x (q * letters + j) (λ e. d (omega arith)) ∙ sym (readings_at s v (q * letters) letters j k))
