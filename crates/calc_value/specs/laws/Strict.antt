-- What the code works out is finite exactly if every evaluated part is, and then it is the value. Assumes nothing.
use Rattle.std.specs.Prelude.{◌≡◌, refl, Bool, true, false, not, cond, ◌&&◌, List, Float}
use Rattle.std.proofs.Common.{sym, ap, ◌∙◌}
use Rattle.std.proofs.Math.Bool.{and-false}
use Rattle.std.proofs.lemmas.Bool.{false≢true}
use Rattle.std.specs.Float.{nan, inf, fin}
use Rattle.std.specs.Float.Ieee.{neg, lt, of_bits}
use Rattle.spec_calc.specs.declared.Operator.{Operator}
use Rattle.spec_calc.specs.declared.Reading.{Reading}
use Rattle.spec_calc.specs.Expression.{Tree, number_tree, letter_tree, minus, negation, binary, choice}
use Rattle.spec_calc.specs.Value.{truth, is_true, apply, heard, reading, value, finite, evaluated, finite_throughout, near_one}
use Rattle.spec_calc.proofs.laws.Evaluated.{minus_throughout, negation_throughout, binary_throughout, choice_throughout}
use Rattle.calc_arith.specs.Strict.{strict_not, strict_apply, strict_choice}
use Rattle.calc_value.specs.Strict.{strict_value}

-- v stands for x: where it is good, it is x, and finite; else it is not finite
data StandsFor (v x : Float) : Bool → Type 0 where
  good : v ≡ x → finite x ≡ true → StandsFor v x true
  bad : finite v ≡ false → StandsFor v x false

neg_finite : (x : Float) → finite (neg x) ≡ finite x
unfolding neg
neg_finite nan = refl
neg_finite (inf s) = refl
neg_finite (fin s m e) = refl

truth_finite : (b : Bool) → finite (truth b) ≡ true
unfolding of_bits
truth_finite true = refl
truth_finite false = refl

-- ---- one operation

by_finite : (x : Float) → StandsFor x x (finite x && true)
by_finite nan = bad refl
by_finite (inf s) = bad refl
by_finite (fin s m e) = good refl refl

again : {v x : Float} {b : Bool} → StandsFor v x b → StandsFor v x (finite x && b)
again (good e f) = rw f (good e f)
again {x = x} (bad f) = rw (and-false (finite x)) (bad f)

minus_stands : {v x : Float} {b : Bool} → StandsFor v x b → StandsFor (neg v) (neg x) (finite (neg x) && b)
minus_stands {x = x} (good e f) = rw (neg_finite x, f) (good (ap neg e) (neg_finite x ∙ f))
minus_stands {v = v} {x = x} (bad f) = rw (and-false (finite (neg x))) (bad (neg_finite v ∙ f))

not_stands : {v x : Float} {b : Bool} → StandsFor v x b → StandsFor (strict_not v) (truth (not (is_true x))) (finite (truth (not (is_true x))) && b)
not_stands {x = x} (good e f) = rw (e, f) (again (good refl (truth_finite (not (is_true x)))))
not_stands {x = x} (bad f) = rw (f, and-false (finite (truth (not (is_true x))))) (bad refl)

binary_stands :
    (o : Operator) {v x w y : Float} {a b : Bool} → StandsFor v x a → StandsFor w y b
    → StandsFor (strict_apply o v w) (apply o x y) (finite (apply o x y) && (a && b))
binary_stands o {x = x} {y = y} (good e f) (good g h) = rw (e, g, f, h) (by_finite (apply o x y))
binary_stands o {v = v} {x = x} {y = y} (good e f) (bad g) = rw (g, and-false (finite v), and-false (finite (apply o x y))) (bad refl)
binary_stands o {x = x} {y = y} (bad f) s = rw (f, and-false (finite (apply o x y))) (bad refl)

choice_stands :
    {v c w x z y : Float} {a b d : Bool} → StandsFor v c a → StandsFor w x b → StandsFor z y d
    → StandsFor (strict_choice v w z) (cond (is_true c) x y) (finite (cond (is_true c) x y) && (a && cond (is_true c) b d))
choice_stands {c = c} {w = w} {x = x} {z = z} {y = y} {b = b} {d = d} (good e f) s u = rw (e, f) (go (is_true c))
  where
    go : (t : Bool) → StandsFor (cond t w z) (cond t x y) (finite (cond t x y) && cond t b d)
    go true = again s
    go false = again u
choice_stands {c = c} {x = x} {y = y} (bad f) s u = rw (f, and-false (finite (cond (is_true c) x y))) (bad refl)

-- ---- a whole calculation

stands : (rs : List Reading) (t : Tree) → StandsFor (strict_value rs t) (value rs t) (finite_throughout rs t)
unfolding strict_value value evaluated
stands rs (number_tree x) = by_finite x
stands rs (letter_tree i) = by_finite (heard (reading rs i))
stands rs (minus t) = rw (minus_throughout rs t) (minus_stands (stands rs t))
stands rs (negation t) = rw (negation_throughout rs t) (not_stands (stands rs t))
stands rs (binary o t u) = rw (binary_throughout rs o t u) (binary_stands o (stands rs t) (stands rs u))
stands rs (choice c x y) = rw (choice_throughout rs c x y) (choice_stands (stands rs c) (stands rs x) (stands rs y))

not_near : (v : Float) → finite v ≡ false → near_one v ≡ false
unfolding lt of_bits
not_near nan f = refl
not_near (inf true) f = refl
not_near (inf false) f = refl
not_near (fin s m e) f = absurd (false≢true (sym f))

module _ (rs : List Reading) (t : Tree) where
  pub strict_finite : finite (strict_value rs t) ≡ finite_throughout rs t
  strict_finite = go (stands rs t)
    where
      go : {v x : Float} {b : Bool} → StandsFor v x b → finite v ≡ b
      go (good e f) = ap finite e ∙ f
      go (bad f) = f

  pub strict_value_is : finite_throughout rs t ≡ true → strict_value rs t ≡ value rs t
  strict_value_is = go (stands rs t)
    where
      go : {v x : Float} {b : Bool} → StandsFor v x b → b ≡ true → v ≡ x
      go (good e f) q = e
      go (bad f) q = absurd (false≢true q)

  pub strict_near : near_one (strict_value rs t) ≡ finite_throughout rs t && near_one (value rs t)
  strict_near = go (stands rs t)
    where
      go : {v x : Float} {b : Bool} → StandsFor v x b → near_one v ≡ b && near_one x
      go (good e f) = ap near_one e
      go {v = v} (bad f) = not_near v f
