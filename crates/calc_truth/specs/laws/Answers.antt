-- From what is read to what is answered. Assumes nothing.
use Rattle.std.specs.Prelude.{◌≡◌, refl, Bool, true, false, not, cond, ◌&&◌, List, [], ◌∷◌, map, ℕ, zero, suc, Float, Option as Maybe, Some}
use Rattle.std.specs.Option.{is_some}
use Rattle.std.proofs.Common.{sym, ◌∙◌, ap, arith}
use Rattle.std.proofs.lemmas.Bool.{false≢true}
use Rattle.std.proofs.Math.Option.{Option, none, some}
use Rattle.std.proofs.Math.ListN.{get_or-map}
use Rattle.spec_lists.specs.Select.{missing}
use Rattle.spec_calc.specs.declared.Reading.{Reading}
use Rattle.spec_calc.specs.declared.Reading.TheVariants as readings
use Rattle.spec_calc.specs.declared.Worth.{Worth}
use Rattle.spec_calc.specs.declared.Worth.TheVariants as worths
use Rattle.spec_calc.specs.Expression.{Tree, number_tree, letter_tree, minus, negation, binary, choice}
use Rattle.spec_calc.specs.Value.{heard, good, reading, value, letters, finite, finite_throughout, lowest, lowest_bad, worth_by, tree_worth, near_one, worth}
use Rattle.spec_calc.specs.Reader.{tree_of}
use Rattle.spec_rule.specs.declared.Outcome.{Outcome}
use Rattle.spec_rule.specs.declared.Outcome.TheVariants as outcomes
use Rattle.spec_rule.specs.Rule.{judged}
use Rattle.calc_value.specs.Parse.{value_with}
use Rattle.calc_value.specs.Strict.{strict_value}
use Rattle.calc_value.specs.Answer.{computed}
use Rattle.calc_value.specs.laws.Strict.{strict_finite, strict_value_is, strict_near}
use Rattle.calc_letters.specs.Letters.{given_letter, byte_letters}
use Rattle.calc_letters.specs.laws.Lowest.{lowest_same}
use Rattle.calc_truth.specs.Answer.{outcome_by, outcome_with, near_computed}

pub allowed_is : (rs : List Reading) (o : Option Tree) → is_some (computed rs o) ≡ not (missing o)
allowed_is rs none = refl
allowed_is rs (some t) = refl

-- ---- values

reading_value : (rs : List Reading) (i : ℕ) → heard (reading (map readings.Value (map heard rs)) i) ≡ heard (reading rs i)
reading_value [] i = refl
reading_value (r ∷ rs) zero = refl
reading_value (r ∷ rs) (suc i) = reading_value rs i

strict_heard : (rs : List Reading) (t : Tree) → value_with (map heard rs) t ≡ strict_value rs t
unfolding strict_value
strict_heard rs (number_tree x) = refl
strict_heard rs (letter_tree i) = reading_value rs i
strict_heard rs (minus t) = rw (strict_heard rs t)
strict_heard rs (negation t) = rw (strict_heard rs t)
strict_heard rs (binary o t u) = rw (strict_heard rs t, strict_heard rs u)
strict_heard rs (choice c x y) = rw (strict_heard rs c, strict_heard rs x, strict_heard rs y)

good_letter : (rs : List Reading) (i : ℕ) → given_letter (map good rs) i ≡ good (reading rs i)
good_letter rs i = get_or-map good rs i readings.NeverHeard

lowest_good : (rs : List Reading) (is : List ℕ) → lowest (given_letter (map good rs)) is ≡ lowest_bad rs is
lowest_good rs [] = refl
lowest_good rs (i ∷ is) = rw (good_letter rs i, lowest_good rs is)

-- ---- what is answered, from what is computed and from the lowest letter that is not good

-- of a text that is a calculation
module _ (s : List ℕ) (h : missing (tree_of s) ≡ false) (values : List Float) (goods : List Bool) where
  pub outcome_stopped : {n : ℕ} → some n ≡ lowest (given_letter goods) (byte_letters s) → outcomes.Stopped n ≡ outcome_with values goods (tree_of s)
  outcome_stopped {n} e = go (tree_of s) refl h
    where
      go : (o : Option Tree) → tree_of s ≡ o → missing o ≡ false → outcomes.Stopped n ≡ outcome_with values goods o
      go none p m = absurd (false≢true (sym m))
      go (some t) p m = rw (sym (e ∙ lowest_same goods s t p))

  pub outcome_computed :
      {w : Maybe Float} {r : Outcome} → none ≡ lowest (given_letter goods) (byte_letters s) → w ≡ computed (map readings.Value values) (tree_of s)
      → r ≡ near_computed w → r ≡ outcome_with values goods (tree_of s)
  outcome_computed {w} {r} e ew er = er ∙ ap near_computed ew ∙ go (tree_of s) refl
    where
      go : (o : Option Tree) → tree_of s ≡ o → near_computed (computed (map readings.Value values) o) ≡ outcome_with values goods o
      go none p = refl
      go (some t) p = rw (sym (e ∙ lowest_same goods s t p))

pub outcome_is :
    (rs : List Reading) (values : List Float) (goods : List Bool) (o : Option Tree) {r : Outcome} → values ≡ map heard rs → goods ≡ map good rs
    → r ≡ outcome_with values goods o → r ≡ judged (worth rs o)
outcome_is rs values goods none ev eg e = e
outcome_is rs values goods (some t) ev eg e =
    e ∙ rw (ev, eg, lowest_good rs (letters t), strict_heard rs t, strict_near rs t) (go (lowest_bad rs (letters t)) (finite_throughout rs t) (value rs t))
  where
    go : (o : Option ℕ) (f : Bool) (x : Float) → outcome_by o (f && near_one x) ≡ judged (worth_by o f x)
    go (some i) f x = refl
    go none true x = refl
    go none false x = refl

module _ (rs : List Reading) (s : List ℕ) {vs : List Float} {gs : List Bool} (ev : vs ≡ map heard rs) (eg : gs ≡ map good rs) where
  module _ {v : Float} (ew : Some v ≡ computed (map readings.Value vs) (tree_of s)) where
    -- there is a tree, and the value is what the code computes of it
    of_tree : {r : Worth} → ((t : Tree) → tree_of s ≡ some t → strict_value rs t ≡ v → r ≡ tree_worth rs t) → r ≡ worth rs (tree_of s)
    of_tree {r} f = go (tree_of s) refl ew
      where
        go : (o : Option Tree) → tree_of s ≡ o → Some v ≡ computed (map readings.Value vs) o → r ≡ worth rs o
        go none p e = let z : ◌≡◌ {A = ℕ} 0 1 = cc in absurd (omega arith)
        go (some t) p e = f t p (sym (strict_heard rs t) ∙ (ap (λ (l : List Float). value_with l t) (sym ev) ∙ cc))

    lowest_here : (t : Tree) → tree_of s ≡ some t → lowest (given_letter gs) (byte_letters s) ≡ lowest_bad rs (letters t)
    lowest_here t p = lowest_same gs s t p ∙ ap (λ (g : List Bool). lowest (given_letter g) (letters t)) eg ∙ lowest_good rs (letters t)

    pub value_stopped : {n : ℕ} → some n ≡ lowest (given_letter gs) (byte_letters s) → worths.BadBy n ≡ worth rs (tree_of s)
    value_stopped e = of_tree (λ t p x. rw (sym (e ∙ lowest_here t p)))

    pub value_good :
        {r : Worth} → none ≡ lowest (given_letter gs) (byte_letters s) → r ≡ cond (finite v) (worths.Is v) worths.BadByArithmetic
        → r ≡ worth rs (tree_of s)
    value_good {r} l e =
        of_tree (λ t p x. e ∙ rw (← x, strict_finite rs t, sym (l ∙ lowest_here t p)) (finite_worth t (finite_throughout rs t) refl))
      where
        finite_worth :
            (t : Tree) (f : Bool) → finite_throughout rs t ≡ f
            → cond f (worths.Is (strict_value rs t)) worths.BadByArithmetic ≡ worth_by none f (value rs t)
        finite_worth t true g = ap worths.Is (strict_value_is rs t g)
        finite_worth t false g = refl
