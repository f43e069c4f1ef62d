-- Laws of the forms of numbers, by the digits found.
use Rattle.std.specs.Prelude.{◌≡◌, refl, Bool, true, false, ◌&&◌, List, [], ◌∷◌, ℕ, ◌+◌, ◌≤◌, ◌<◌, nat_eq, length, get_or, drop}
use Rattle.std.proofs.Common.{arith, add-one, length-drop, drop-cons, eqb-true, eq-eqb, sym, ◌∙◌}
use Rattle.std.proofs.lemmas.Bool.{false≢true}
use Rattle.spec_lists.specs.Text.{among, digit}
use Rattle.spec_lists.specs.Select.{nonempty, run, after}
use Rattle.spec_token.specs.Scanner.{digits, exponent, fraction}
use Rattle.spec_token.specs.Spans.{Span}
use Rattle.spec_token.proofs.laws.Spans.{span_after}

some_more : (l : List ℕ) → 0 < length l → nonempty l ≡ true
some_more [] h = absurd (omega arith)
some_more (b ∷ l) h = refl

some_none : (l : List ℕ) → length l ≤ 0 → nonempty l ≡ false
some_none [] h = refl
some_none (b ∷ l) h = absurd (omega arith)

module _ {w : List ℕ} {at e : ℕ} (d : Span digit w at e) where
  pub some_digits : at < e → nonempty (run digit (drop at w)) ≡ true
  some_digits h = some_more (run digit (drop at w)) (omega (arith, d.ends))

  pub more_behind : at < e → e < length w → digits (drop at w) ≡ false
  more_behind h l = rw (some_digits h, span_after d, some_more (drop e w) (rw length-drop (omega arith)))

  pub all_digits : at < e → length w ≤ e → digits (drop at w) ≡ true
  all_digits h l = rw (some_digits h, span_after d, some_none (drop e w) (rw length-drop (omega arith)))

  -- whether they go on to the end
  pub digits_end : at < e → nat_eq e (length w) ≡ digits (drop at w)
  digits_end h = go (nat_eq e (length w)) refl
    where
      go : (b : Bool) → nat_eq e (length w) ≡ b → b ≡ digits (drop at w)
      go true q = let g : e ≡ length w = eqb-true e (length w) q in sym (all_digits h (omega arith))
      go false q =
          let n : e ≡ length w → ⊥ = λ g. false≢true (sym q ∙ eq-eqb e (length w) g) in
          sym (more_behind h (omega (arith, d.within, n)))

-- a fraction, by the byte at a place
pub fraction_is :
    (w : List ℕ) (at : ℕ) → at < length w → among "." (get_or w at 0) ≡ true
    → fraction (drop at w) ≡ nonempty (run digit (drop (at + 1) w)) && exponent (after digit (drop (at + 1) w))
fraction_is w at h e =
    let here : drop at w ≡ get_or w at 0 ∷ drop (at + 1) w = rw (add-one) (drop-cons w at 0 h) in
    rw (here, e)
