-- A word's kind, by whether it is a keyword.
use Rattle.std.specs.Prelude.{◌≡◌, refl, Bool, true, false, cond, List, [], ◌∷◌, ℕ, eqb, Option, Some, None}
use Rattle.std.proofs.Common.{sym, ◌∙◌}
use lib.Pointwise.{pointwise}
use Rattle.spec_lists.specs.Text.{bytes, same}
use Rattle.spec_token.specs.declared.Kind.{Kind}
use Rattle.spec_token.specs.declared.Kind.TheVariants.{Uag, Hag, Asg, Rule, Calc, Inp, Int, Float, String}
use Rattle.spec_token.specs.Scanner.{int, float, inp, word_kind}
use Rattle.load_kind.specs.Keyword.{keyword}

abbrev chain : Bool → Bool → Bool → Bool → Bool → {A : Type 0} → A → A → A → A → A → A → A
chain u h a r c x y z v w d = cond u x (cond h y (cond a z (cond r v (cond c w d))))

-- std's comparison of two slices
same_pointwise : (s t : List ℕ) → same s t ≡ pointwise eqb s t
same_pointwise [] [] = refl
same_pointwise [] (c ∷ t) = refl
same_pointwise (b ∷ s) [] = refl
same_pointwise (b ∷ s) (c ∷ t) = rw (same_pointwise s t) refl

pub not_same : (w t x : List ℕ) {r : Bool} → x ≡ t → r ≡ pointwise eqb w x → r ≡ false → same w t ≡ false
not_same w t x e f g = rw (← e) (same_pointwise w x ∙ sym f ∙ g)

module _ (w : List ℕ) where
  pub none_of_them :
      same w (bytes "UAG") ≡ false → same w (bytes "HAG") ≡ false → same w (bytes "ASG") ≡ false → same w (bytes "RULE") ≡ false
      → same w (bytes "CALC") ≡ false → None ≡ keyword w
  none_of_them u h a r c = rw (u, h, a, r, c) refl

  abbrev other : Kind
  other = cond (inp w) Inp (cond (int w) Int (cond (float w) Float String))

  by : (u h a r c : Bool) (n : Option Kind) → n ≡ chain u h a r c (Some Uag) (Some Hag) (Some Asg) (Some Rule) (Some Calc) None
      → (k : Kind) → n ≡ Some k → k ≡ chain u h a r c Uag Hag Asg Rule Calc other
  by true h a r c n e k f = cc
  by false true a r c n e k f = cc
  by false false true r c n e k f = cc
  by false false false true c n e k f = cc
  by false false false false true n e k f = cc
  by false false false false false n e k f = absurd (cc)

  pub is_keyword : (n : Option Kind) (k : Kind) → n ≡ keyword w → n ≡ Some k → k ≡ word_kind w
  is_keyword n k e f =
      by (same w (bytes "UAG")) (same w (bytes "HAG")) (same w (bytes "ASG")) (same w (bytes "RULE")) (same w (bytes "CALC")) n e k f
