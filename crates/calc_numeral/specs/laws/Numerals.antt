-- Laws of a number's parts and of where it ends. Assumes nothing.
use Rattle.std.specs.Prelude.{◌≡◌, ℕ, ◌+◌, ◌-◌, ◌*◌, ◌<◌, Bool, true, false, cond, ◌&&◌, List, [], ◌∷◌, ◌++◌, length, drop, ◌≢◌, slice_index, refl, Float, Option as Maybe, Some, None}
use Rattle.std.proofs.Common.{sym, ◌∙◌, ap, append-nil, arith, ne_eqb, length-append}
use Rattle.std.proofs.Math.Option.{Option, none, some}
use Rattle.std.proofs.lemmas.Bool.{lt-leb}
use Rattle.spec_lists.specs.Text.{among, digit, whole}
use Rattle.spec_lists.specs.Select.{all, run, after, keep_if, skip_if}
use Rattle.spec_calc.specs.Symbol.{decimal, numeral_byte}
use Rattle.spec_calc.specs.Scanner.{pointed, within_digits, numeral}
use Rattle.calc_numeral.specs.Numeral.{Counted, Fraction, Numbered}
use Rattle.spec_lists.proofs.laws.Both.{absurd_bool}
use Rattle.spec_lists.proofs.laws.Front.{all_run}
use Rattle.spec_calc.proofs.laws.Numeral.{within_some, digits_behind}
use Rattle.calc_numeral.specs.laws.Runs.{after_head, head_at, passed_inside, run_more, after_more, stops}

-- ---- figures are digits, and then points and digits

figure_of : (b : ℕ) → digit b ≡ true → numeral_byte b ≡ true
figure_of b e = rw e

run_digit_run : (y : List ℕ) → run digit (run numeral_byte y) ≡ run digit y
run_digit_run [] = refl
run_digit_run (b ∷ y) = go (numeral_byte b) (digit b) refl refl (run_digit_run y)
  where
    go :
        (t u : Bool) → numeral_byte b ≡ t → digit b ≡ u → run digit (run numeral_byte y) ≡ run digit y
        → run digit (keep_if t b (run numeral_byte y)) ≡ keep_if u b (run digit y)
    go true true e f h = rw (f, h)
    go true false e f h = rw f
    go false true e f h = absurd_bool (sym (figure_of b f) ∙ e)
    go false false e f h = refl

after_digit_run : (y : List ℕ) → after digit (run numeral_byte y) ≡ run numeral_byte (after digit y)
after_digit_run [] = refl
after_digit_run (b ∷ y) = go (numeral_byte b) (digit b) refl refl (after_digit_run y)
  where
    go :
        (t u : Bool) → numeral_byte b ≡ t → digit b ≡ u → after digit (run numeral_byte y) ≡ run numeral_byte (after digit y)
        → after digit (keep_if t b (run numeral_byte y)) ≡ run numeral_byte (skip_if u (after digit y) (b ∷ y))
    go true true e f h = rw f h
    go true false e f h = rw (e, f)
    go false true e f h = absurd_bool (sym (figure_of b f) ∙ e)
    go false false e f h = rw e

after_after : (y : List ℕ) → after numeral_byte y ≡ after numeral_byte (after digit y)
after_after [] = refl
after_after (b ∷ y) = go (digit b) refl (after_after y)
  where
    go :
        (u : Bool) → digit b ≡ u → after numeral_byte y ≡ after numeral_byte (after digit y)
        → after numeral_byte (b ∷ y) ≡ after numeral_byte (skip_if u (after digit y) (b ∷ y))
    go true f h = rw (figure_of b f) h
    go false f h = refl

run_parts : (y : List ℕ) → run numeral_byte y ≡ run digit y ++ run numeral_byte (after digit y)
run_parts [] = refl
run_parts (b ∷ y) = go (digit b) refl (run_parts y)
  where
    go :
        (u : Bool) → digit b ≡ u → run numeral_byte y ≡ run digit y ++ run numeral_byte (after digit y)
        → run numeral_byte (b ∷ y) ≡ keep_if u b (run digit y) ++ run numeral_byte (skip_if u (after digit y) (b ∷ y))
    go true f h = rw (figure_of b f) (ap (λ (l : List ℕ). b ∷ l) h)
    go false f h = refl

-- ---- what points and digits stand for

whole_append : (n : ℕ) (w f : List ℕ) → whole n (w ++ f) ≡ whole (whole n w) f
whole_append n [] f = refl
whole_append n (d ∷ w) f = whole_append (n * 10 + (d - 48)) w f

within_none : (w f : List ℕ) → 15 < length w + length f → within_digits w f ≡ none
within_none w f h = rw (lt-leb (length w + length f) 15 h)

cond_none : (t : Bool) (o : Option Float) → o ≡ none → cond t o none ≡ none
cond_none true o e = e
cond_none false o e = refl

many_whole : (w z : List ℕ) → 15 < length w → pointed w z ≡ none
many_whole w [] h = within_none w [] (omega arith)
many_whole w (b ∷ []) h = refl
many_whole w (b ∷ d ∷ ds) h = cond_none (among "." b && all digit (d ∷ ds)) (within_digits w (d ∷ ds)) (within_none w (d ∷ ds) (omega arith))

many_behind : (w ds : List ℕ) → 15 < length w + length ds → pointed w (46 ∷ ds) ≡ none
many_behind w [] h = refl
many_behind w (d ∷ ds) h = cond_none (all digit (d ∷ ds)) (within_digits w (d ∷ ds)) (within_none w (d ∷ ds) h)

none_behind : (w ds : List ℕ) → digit (slice_index ds 0) ≡ false → pointed w (46 ∷ ds) ≡ none
none_behind w [] e = refl
none_behind w (d ∷ ds) e = rw e

all_point : (f g : List ℕ) → all digit (f ++ (46 ∷ g)) ≡ false
all_point [] g = refl
all_point (d ∷ f) g = go (digit d) (all_point f g)
  where
    go : (t : Bool) → all digit (f ++ (46 ∷ g)) ≡ false → (t && all digit (f ++ (46 ∷ g))) ≡ false
    go true h = h
    go false h = refl

two_points : (w f g : List ℕ) → pointed w (46 ∷ (f ++ (46 ∷ g))) ≡ none
two_points w [] g = refl
two_points w (d ∷ f) g = rw (all_point (d ∷ f) g)

point_at : (s : List ℕ) (p : ℕ) → slice_index s p ≡ 46 → run numeral_byte (drop p s) ≡ 46 ∷ run numeral_byte (drop (p + 1) s)
point_at s p e = let h : numeral_byte (slice_index s p) ≡ true = rw e refl in run_more numeral_byte s p h (passed_inside numeral_byte s p refl h) ∙ rw e

pub point_inside : (s : List ℕ) (p : ℕ) {b : ℕ} → b ≡ slice_index s p → b ≡ 46 → p < length s
point_inside s p eb e = passed_inside numeral_byte s p refl (rw (← eb, e) refl)

-- no figure stands where the digits end and no point is
no_figure : (s : List ℕ) (at p : ℕ) → after digit (drop at s) ≡ drop p s → (slice_index s p ≢ 46) → numeral_byte (slice_index s p) ≡ false
no_figure s at p e n =
    let d : digit (slice_index s p) ≡ false = ap digit (sym (ap (λ (l : List ℕ). slice_index l 0) e ∙ head_at digit s p)) ∙ after_head digit refl (drop at s) in
    rw (d, ne_eqb (slice_index s p) 46 n)

-- ---- fraction_at, by what the digits are

module _ (s : List ℕ) (at left n : ℕ) (w : List ℕ) (lw : length w + left ≡ 15) (ew : n ≡ whole 0 w) where
  pub fraction_many : left < length (run digit (drop at s)) → Fraction s at w None
  fraction_many h =
      many_behind w (run numeral_byte (drop at s))
      (rw run_parts (omega (arith, length-append (run digit (drop at s)) (run numeral_byte (after digit (drop at s))))))

  module _ {m p l : ℕ} (k : Counted s at left n m p l) where
    pub fraction_none : p ≡ at → Fraction s at w None
    fraction_none e = none_behind w (run numeral_byte (drop at s)) (go (run numeral_byte (drop at s)) (run_digit_run (drop at s)) (omega (arith, k.offset)))
      where
        go : (y : List ℕ) → run digit y ≡ run digit (drop at s) → length (run digit (drop at s)) ≡ 0 → digit (slice_index y 0) ≡ false
        go [] f h = refl
        go (b ∷ y) f h = go' (digit b) refl
          where
            go' : (t : Bool) → digit b ≡ t → digit b ≡ false
            go' true g = absurd (omega (arith, rw g at (ap length f)))
            go' false g = g

    parts : run numeral_byte (drop at s) ≡ run digit (drop at s) ++ run numeral_byte (drop p s)
    parts = run_parts (drop at s) ∙ ap (λ (y : List ℕ). run digit (drop at s) ++ run numeral_byte y) k.behind

    pub fraction_point : {b : ℕ} → b ≡ slice_index s p → b ≡ 46 → Fraction s at w None
    fraction_point eb e = rw (parts, point_at s p (sym eb ∙ e)) (two_points w (run digit (drop at s)) (run numeral_byte (drop (p + 1) s)))

    pub fraction_is : {b : ℕ} {v : Float} → b ≡ slice_index s p → (b ≢ 46) → (p ≢ at) → v ≡ decimal m (left - l) → Fraction s at w (Some (v, p))
    fraction_is {b} {v} eb nb np ev =
        let z = stops numeral_byte s p (no_figure s at p k.behind (λ e. nb (eb ∙ e))) in
        let f = run digit (drop at s) in
        let q : run numeral_byte (drop at s) ≡ run digit (drop at s) = parts ∙ rw z.0 (append-nil (run digit (drop at s))) in (
          record { later = omega (arith, k.offset, np); within = k.within; behind = after_after (drop at s) ∙ rw k.behind z.1 },
          rw q
              (digits_behind w (run digit (drop at s)) (omega (arith, k.offset, np)) (all_run digit (drop at s))
              ∙ within_some w (run digit (drop at s)) (omega (arith, k.room))
              ∙ ap some
              (sym
              (ev
              ∙ rw (k.makes, ew, ← whole_append 0 w (run digit (drop at s)))
              (ap (decimal (whole 0 (w ++ run digit (drop at s)))) (omega (arith, k.room)))))),
        )

-- ---- number_at

module _ (s : List ℕ) (at : ℕ) where
  numeral_is : numeral (run numeral_byte (drop at s)) ≡ pointed (run digit (drop at s)) (run numeral_byte (after digit (drop at s)))
  numeral_is = rw (run_digit_run (drop at s), after_digit_run (drop at s))

  pub number_many : 15 < length (run digit (drop at s)) → Numbered s at None
  number_many h = numeral_is ∙ many_whole (run digit (drop at s)) (run numeral_byte (after digit (drop at s))) h

  module _ {n p l : ℕ} (k : Counted s at 15 0 n p l) where
    behind_is : numeral (run numeral_byte (drop at s)) ≡ pointed (run digit (drop at s)) (run numeral_byte (drop p s))
    behind_is = numeral_is ∙ ap (λ (y : List ℕ). pointed (run digit (drop at s)) (run numeral_byte y)) k.behind

    pub number_point :
        {b : ℕ} → b ≡ slice_index s p → b ≡ 46 → (r : Maybe (Float × ℕ))
        → ((w : List ℕ) → length w + l ≡ 15 → n ≡ whole 0 w → Fraction s (p + 1) w r) → Numbered s at r
    number_point eb e (Some r) h =
        let z = h (run digit (drop at s)) k.room k.makes in
        let i = point_inside s p eb e in (
          record {
            later = omega (arith, z.0.later, k.offset);
            within = z.0.within;
            behind = after_after (drop at s) ∙ rw k.behind (after_more numeral_byte s p (rw (← eb, e) refl) i ∙ z.0.behind);
          },
          behind_is ∙ rw (point_at s p (sym eb ∙ e)) z.1,
        )
    number_point eb e None h = behind_is ∙ rw (point_at s p (sym eb ∙ e)) (h (run digit (drop at s)) k.room k.makes)

    pub number_whole : {b : ℕ} {v : Float} → numeral_byte (slice_index s at) ≡ true → b ≡ slice_index s p → (b ≢ 46) → v ≡ decimal n 0 → Numbered s at (Some (v, p))
    number_whole {b} {v} e eb nb ev =
        let g = no_figure s at p k.behind (λ q. nb (eb ∙ q)) in
        let z = stops numeral_byte s p g in
        let np : p ≡ at → ⊥ = λ q. absurd_bool (sym e ∙ rw (← q) g) in (
          record { later = omega (arith, k.offset, np); within = k.within; behind = after_after (drop at s) ∙ rw k.behind z.1 },
          behind_is
              ∙ rw z.0
              (within_some (run digit (drop at s)) [] (omega (arith, k.room))
              ∙ ap some (sym (ev ∙ rw (k.makes, append-nil (run digit (drop at s)))))),
        )
