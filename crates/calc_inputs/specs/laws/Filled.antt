-- Inputs filled one by one.
use Rattle.std.specs.Prelude.{◌≡◌, refl, Bool, false, List, [], ◌∷◌, map, ℕ, zero, suc, ◌+◌, ◌≤◌, ◌<◌, length, get_or, set, Float}
use Rattle.std.proofs.Common.{sym, ◌∙◌, ⊎_elim, eq-or-lt_of_le, arith, length-set, ext_get_or, get_or-set_same, get_or-set_other}
use Rattle.std.proofs.lemmas.List.{length-map}
use Rattle.std.proofs.Math.ListN.{get_or-map}
use Rattle.std.specs.Float.{nan}
use Rattle.spec_calc.specs.declared.Reading.{Reading}
use Rattle.spec_calc.specs.declared.Reading.TheVariants as readings
use Rattle.spec_calc.specs.Value.{heard, good, reading}

pub record FilledTo (rs : List Reading) (values : List Float) (goods : List Bool) (i : ℕ) : Type 0 where
  pub bound : i ≤ 21
  pub values_many : length values ≡ 21
  pub goods_many : length goods ≡ 21
  pub valued : (j : ℕ) → j < i → get_or values j nan ≡ heard (reading rs j)
  pub judged : (j : ℕ) → j < i → get_or goods j false ≡ good (reading rs j)

pub filled_none : (rs : List Reading) (values : List Float) (goods : List Bool) → length values ≡ 21 → length goods ≡ 21 → FilledTo rs values goods 0
filled_none rs values goods e f =
    record { bound = omega arith; values_many = e; goods_many = f; valued = λ j h. absurd (omega arith); judged = λ j h. absurd (omega arith) }

set_more :
    {A : Type 0} (d : A) (xs : List A) (f : ℕ → A) (i : ℕ) {x : A} → i < length xs → ((j : ℕ) → j < i → get_or xs j d ≡ f j) → x ≡ f i
    → (j : ℕ) → j < i + 1 → get_or (set xs i x) j d ≡ f j
set_more d xs f i {x} l h e j g =
    let le : j ≤ i = omega arith in
    ⊎_elim (λ (q : j ≡ i). rw q (get_or-set_same xs i x d l ∙ e)) (λ (q : j < i). get_or-set_other xs i j x d (λ p. omega arith) ∙ h j q) (eq-or-lt_of_le le)

pub filled_more :
    (rs : List Reading) (values : List Float) (goods : List Bool) (i : ℕ) {v : Float} {g : Bool} → FilledTo rs values goods i → i < 21
    → v ≡ heard (reading rs i) → g ≡ good (reading rs i) → FilledTo rs (set values i v) (set goods i g) (i + 1)
filled_more rs values goods i {v} {g} k l ev eg =
    record {
      bound = omega arith;
      values_many = length-set values i v ∙ k.values_many;
      goods_many = length-set goods i g ∙ k.goods_many;
      valued = set_more nan values (λ j. heard (reading rs j)) i (omega (arith, k.values_many)) k.valued ev;
      judged = set_more false goods (λ j. good (reading rs j)) i (omega (arith, k.goods_many)) k.judged eg;
    }

value_at : (rs : List Reading) (j : ℕ) → j < length rs → get_or (map heard rs) j nan ≡ heard (reading rs j)
value_at [] j h = absurd (omega arith)
value_at (r ∷ rs) zero h = refl
value_at (r ∷ rs) (suc j) h = value_at rs j (omega arith)

pub filled_all :
    (rs : List Reading) (values : List Float) (goods : List Bool) (i : ℕ) → length rs ≡ 21 → FilledTo rs values goods i → 21 ≤ i
    → (values ≡ map heard rs) × (goods ≡ map good rs)
filled_all rs values goods i e k h = (
  ext_get_or nan values (map heard rs) (k.values_many ∙ sym (length-map rs heard ∙ e))
      (λ j l. k.valued j (omega (arith, k.values_many)) ∙ sym (value_at rs j (omega (arith, k.values_many)))),
  ext_get_or false goods (map good rs) (k.goods_many ∙ sym (length-map rs good ∙ e))
      (λ j l. k.judged j (omega (arith, k.goods_many)) ∙ sym (get_or-map good rs j readings.NeverHeard)),
)
