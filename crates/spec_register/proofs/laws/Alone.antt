-- Setting one reading leaves all others.
use Rattle.std.specs.Prelude.{◌≡◌, List, ℕ, ◌<◌, length, get_or, set}
use Rattle.std.proofs.Common.{ap, ◌∙◌, arith, get_or-set_same, get_or-set_other}
use Rattle.std.proofs.Math.Decide.{ℕ_discrete, dec_lt}
use Rattle.std.proofs.Math.Seq.{set_out}
use Rattle.spec_calc.specs.declared.Reading.{Reading}
use Rattle.spec_calc.specs.declared.Reading.TheVariants.{NeverHeard}
use Rattle.spec_calc.specs.Value.{reading}
use Rattle.spec_register.specs.Register.{Register, never_heard, readings_at, with_reading}
use Rattle.spec_register.specs.Sentences.{reading_at}

module _ (r : Register) (i letter : ℕ) (x : Reading) where
  group_elsewhere : (j l : ℕ) → (j ≡ i → ⊥) → reading_at (with_reading r i letter x) j l ≡ reading_at r j l
  group_elsewhere j l d =
      ap (λ (rs : List Reading). reading rs l) (get_or-set_other r.readings i j (set (readings_at r i) letter x) never_heard d)

  pub set_here : i < length r.readings → readings_at (with_reading r i letter x) i ≡ set (readings_at r i) letter x
  set_here h = get_or-set_same r.readings i (set (readings_at r i) letter x) never_heard h

  letter_elsewhere : (l : ℕ) → (l ≡ letter → ⊥) → Dec (i < length r.readings) → reading_at (with_reading r i letter x) i l ≡ reading_at r i l
  letter_elsewhere l n (yes h) = ap (λ (rs : List Reading). reading rs l) (set_here h) ∙ get_or-set_other (readings_at r i) letter l x NeverHeard n
  letter_elsewhere l n (no h) =
      ap (λ (rss : List (List Reading)). reading (get_or rss i never_heard) l) (set_out r.readings i (set (readings_at r i) letter x) (omega arith))

  pub elsewhere : (j l : ℕ) → (j ≡ i → l ≡ letter → ⊥) → reading_at (with_reading r i letter x) j l ≡ reading_at r j l
  elsewhere j l n = by (ℕ_discrete j i)
    where
      by : Dec (j ≡ i) → reading_at (with_reading r i letter x) j l ≡ reading_at r j l
      by (yes e) = rw e (letter_elsewhere l (n e) (dec_lt i (length r.readings)))
      by (no d) = group_elsewhere j l d
