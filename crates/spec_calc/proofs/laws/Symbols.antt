-- How a text's symbols go on from what the text begins with: the bound on the steps does not matter.
use Rattle.std.specs.Prelude.{◌≡◌, refl, Bool, true, false, cond, List, [], ◌∷◌, ℕ, zero, suc, ◌-◌, ◌≤◌, ◌<◌, length, take, drop}
use Rattle.std.proofs.Common.{ap, arith, ne_eqb, length-drop}
use Rattle.std.proofs.Math.Option.{Option, none, some}
use Rattle.spec_lists.specs.Text.{same, among, within}
use Rattle.spec_lists.specs.Select.{first, run, after, skip_if}
use Rattle.spec_lists.proofs.laws.Range.{above, inside}
use Rattle.spec_calc.specs.Symbol.{Symbol, letter, numeral_byte, Spelling, spellings}
use Rattle.spec_calc.specs.Scanner.{numeral, Start, blank, figure, wrong, sign, sign_of, start, spelling, then}
use Rattle.spec_calc.specs.Scanner.{then_number, symbols_in, symbols}

module _ {A : Type 0} (p : A → Bool) where
  after_shorter : (s : List A) → length (after p s) ≤ length s
  after_shorter [] = omega arith
  after_shorter (x ∷ s) = go (p x) (after_shorter s)
    where
      go : (b : Bool) → length (after p s) ≤ length s → length (skip_if b (after p s) (x ∷ s)) ≤ length (x ∷ s)
      go true h = omega arith
      go false h = omega arith

-- ---- what a byte begins

-- a blank, a number, a capital letter, a small letter, or else x
abbrev pub start_by : Bool → Bool → Bool → Bool → ℕ → Start → Start
start_by p q u v b x = cond p blank (cond q figure (cond u (sign (letter (b - 65)) 0) (cond v (sign (letter (b - 97)) 0) x)))

no_blank : (b : ℕ) → 32 < b → among " \t" b ≡ false
no_blank b h = rw (ne_eqb b 32 (λ e. omega arith), ne_eqb b 9 (λ e. omega arith))

no_numeral : (b : ℕ) → 57 < b → numeral_byte b ≡ false
no_numeral b h = rw (above 48 57 b h, ne_eqb b 46 (λ e. omega arith))

-- by the tests, which are made in this order
module _ (b : ℕ) (p q u v : Bool) (x : Start) where
  by_blank : p ≡ true → start_by p q u v b x ≡ blank
  by_blank e = rw e

  by_figure : p ≡ false → q ≡ true → start_by p q u v b x ≡ figure
  by_figure e f = rw (e, f)

  by_upper : p ≡ false → q ≡ false → u ≡ true → start_by p q u v b x ≡ sign (letter (b - 65)) 0
  by_upper e f g = rw (e, f, g)

  by_lower : p ≡ false → q ≡ false → u ≡ false → v ≡ true → start_by p q u v b x ≡ sign (letter (b - 97)) 0
  by_lower e f g h = rw (e, f, g, h)

-- and back
module _ (b : ℕ) where
  begun_blank : (p q u v : Bool) (o : Option Spelling) → start_by p q u v b (sign_of o) ≡ blank → p ≡ true
  begun_blank true q u v o e = refl
  begun_blank false true u v o e = cc
  begun_blank false false true v o e = cc
  begun_blank false false false true o e = cc
  begun_blank false false false false none e = cc
  begun_blank false false false false (some x) e = cc

  begun_figure : (p q u v : Bool) (o : Option Spelling) → start_by p q u v b (sign_of o) ≡ figure → q ≡ true
  begun_figure true q u v o e = cc
  begun_figure false true u v o e = refl
  begun_figure false false true v o e = cc
  begun_figure false false false true o e = cc
  begun_figure false false false false none e = cc
  begun_figure false false false false (some x) e = cc

  pub begun_sign :
      {A : Type 0} (p q u v : Bool) (w : Start) {x : Symbol} {m : ℕ} → (u ≡ true → letter (b - 65) ≡ x → 0 ≡ m → A)
      → (v ≡ true → letter (b - 97) ≡ x → 0 ≡ m → A) → (w ≡ sign x m → A) → start_by p q u v b w ≡ sign x m → A
  begun_sign true q u v w f g h e = let z : ◌≡◌ {A = ℕ} 0 1 = cc in absurd (omega arith)
  begun_sign false true u v w f g h e = let z : ◌≡◌ {A = ℕ} 0 1 = cc in absurd (omega arith)
  begun_sign false false true v w f g h e = f refl (cc) (cc)
  begun_sign false false false true w f g h e = g refl (cc) (cc)
  begun_sign false false false false w f g h e = h e

module _ (b : ℕ) (s : List ℕ) where
  pub blank_start : among " \t" b ≡ true → start b s ≡ blank
  unfolding spelling
  blank_start e = by_blank b (among " \t" b) (numeral_byte b) (within 65 85 b) (within 97 117 b) (spelling b s) e

  pub start_digit : 48 ≤ b → b ≤ 57 → start b s ≡ figure
  unfolding spelling
  start_digit l h =
      by_figure b (among " \t" b) (numeral_byte b) (within 65 85 b) (within 97 117 b) (spelling b s) (no_blank b (omega arith)) (rw (inside 48 57 b l h))

  pub start_upper : 65 ≤ b → b ≤ 85 → start b s ≡ sign (letter (b - 65)) 0
  unfolding spelling
  start_upper l h =
      by_upper b (among " \t" b) (numeral_byte b) (within 65 85 b) (within 97 117 b) (spelling b s)
      (no_blank b (omega arith)) (no_numeral b (omega arith)) (inside 65 85 b l h)

  pub start_lower : 97 ≤ b → b ≤ 117 → start b s ≡ sign (letter (b - 97)) 0
  unfolding spelling
  start_lower l h =
      by_lower b (among " \t" b) (numeral_byte b) (within 65 85 b) (within 97 117 b) (spelling b s)
      (no_blank b (omega arith)) (no_numeral b (omega arith)) (above 65 85 b (omega arith)) (inside 97 117 b l h)

  -- only a blank byte begins a blank
  pub blank_byte : start b s ≡ blank → among " \t" b ≡ true
  blank_byte e =
      begun_blank b (among " \t" b) (numeral_byte b) (within 65 85 b) (within 97 117 b)
      (first (λ x. same x.spelled (take (length x.spelled) (b ∷ s))) spellings) e

  -- only a number begins with a figure
  pub figure_byte : start b s ≡ figure → numeral_byte b ≡ true
  figure_byte e =
      begun_figure b (among " \t" b) (numeral_byte b) (within 65 85 b) (within 97 117 b)
      (first (λ x. same x.spelled (take (length x.spelled) (b ∷ s))) spellings) e

-- a number takes its first byte
number_shorter : (b : ℕ) (s : List ℕ) → start b s ≡ figure → length (after numeral_byte (b ∷ s)) ≤ length s
number_shorter b s e = rw (figure_byte b s e) (after_shorter numeral_byte s)

drop_shorter : (m : ℕ) (s : List ℕ) → length (drop m s) ≤ length s
drop_shorter m s = omega (arith, length-drop m s)

-- one step, if the bounds are enough for each shorter text
enough_step :
    (n m b : ℕ) (s : List ℕ)
    → ((t : List ℕ) → length t ≤ length s → symbols_in n t ≡ symbols_in m t)
    → (x : Start) → start b s ≡ x → symbols_in (suc n) (b ∷ s) ≡ symbols_in (suc m) (b ∷ s)
unfolding symbols_in
enough_step n m b s h blank e = rw (e, symbols_in) (h s (omega arith))
enough_step n m b s h figure e =
    rw (e, symbols_in) (ap (then_number (numeral (run numeral_byte (b ∷ s)))) (h (after numeral_byte (b ∷ s)) (number_shorter b s e)))
enough_step n m b s h wrong e = rw (e, symbols_in)
enough_step n m b s h (sign x k) e = rw (e, symbols_in) (ap (then x) (h (drop k s) (drop_shorter k s)))

enough : (n m : ℕ) (s : List ℕ) → length s ≤ n → length s ≤ m → symbols_in n s ≡ symbols_in m s
unfolding symbols_in
enough zero zero s h g = refl
enough zero (suc m) [] h g = refl
enough zero (suc m) (b ∷ s) h g = absurd (omega arith)
enough (suc n) zero [] h g = refl
enough (suc n) zero (b ∷ s) h g = absurd (omega arith)
enough (suc n) (suc m) [] h g = refl
enough (suc n) (suc m) (b ∷ s) h g = enough_step n m b s (λ t l. enough n m t (omega arith) (omega arith)) (start b s) refl

-- ---- what a text goes on with, by what it begins with

pub scan_end : symbols [] ≡ some []
unfolding symbols_in
scan_end = refl

module _ (b : ℕ) (s : List ℕ) where
  pub scan_blank : start b s ≡ blank → symbols (b ∷ s) ≡ symbols s
  unfolding symbols_in
  scan_blank e = rw (e, symbols_in)

  pub scan_figure : start b s ≡ figure → symbols (b ∷ s) ≡ then_number (numeral (run numeral_byte (b ∷ s))) (symbols (after numeral_byte (b ∷ s)))
  unfolding symbols_in
  scan_figure e =
      let l = number_shorter b s e in
      rw (e, symbols_in)
      (ap
      (then_number (numeral (run numeral_byte (b ∷ s))))
      (enough (length s) (length (after numeral_byte (b ∷ s))) (after numeral_byte (b ∷ s)) (omega arith) (omega arith)))

  pub scan_wrong : start b s ≡ wrong → symbols (b ∷ s) ≡ none
  unfolding symbols_in
  scan_wrong e = rw (e, symbols_in)

  pub scan_sign : {x : Symbol} {m : ℕ} → start b s ≡ sign x m → symbols (b ∷ s) ≡ then x (symbols (drop m s))
  unfolding symbols_in
  scan_sign {x} {m} e =
      let l = drop_shorter m s in rw (e, symbols_in) (ap (then x) (enough (length s) (length (drop m s)) (drop m s) (omega arith) (omega arith)))
