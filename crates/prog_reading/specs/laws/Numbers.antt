-- A text that is a number, against the number that it begins with.
use Rattle.std.specs.Prelude.{◌≡◌, refl, Bool, true, false, cond, ◌&&◌, ◌||◌, List, [], ◌∷◌, ℕ, suc, ◌<◌, length, drop, get_or, Float, None, Some}
use Rattle.std.proofs.Common.{sym, ap, ◌∙◌, arith, drop-cons, ne_eqb}
use Rattle.std.proofs.Math.Option.{Option, none, some}
use Rattle.std.proofs.Math.Seq.{drop-length}
use Rattle.spec_lists.specs.Text.{among, digit}
use Rattle.spec_lists.specs.Select.{all, run, after, keep_if, skip_if}
use Rattle.spec_lists.proofs.laws.Both.{both, absurd_bool}
use Rattle.spec_calc.specs.Symbol.{numeral_byte}
use Rattle.spec_calc.specs.Scanner.{numeral, pointed, within_digits}
use Rattle.calc_numeral.specs.Numeral.{Ends, Numbered}
use Rattle.prog_reading.specs.Reading.{if_found, number}

pub figure_byte : (b : ℕ) → digit b ≡ true → numeral_byte b ≡ true
figure_byte b e = rw e

pub no_figure : (b : ℕ) → digit b ≡ false → (b ≡ 46 → ⊥) → numeral_byte b ≡ false
no_figure b e n = rw (e, ne_eqb b 46 n)

-- ---- runs to the end

module _ (p : ℕ → Bool) where
  all_after : (s : List ℕ) → all p s ≡ true → after p s ≡ []
  all_after [] e = refl
  all_after (b ∷ s) e = let z = both (p b) (all p s) e in rw z.0 (all_after s z.1)

  run_whole : (s : List ℕ) → after p s ≡ [] → run p s ≡ s
  run_whole [] e = refl
  run_whole (b ∷ s) e = go (p b) (run_whole s) e
    where
      go : (t : Bool) → (after p s ≡ [] → run p s ≡ s) → skip_if t (after p s) (b ∷ s) ≡ [] → keep_if t b (run p s) ≡ b ∷ s
      go true h k = ap (λ (l : List ℕ). b ∷ l) (h k)
      go false h k = let z : ◌≡◌ {A = ℕ} 0 1 = cc in absurd (omega arith)

all_figures : (s : List ℕ) → all digit s ≡ true → all numeral_byte s ≡ true
all_figures [] e = refl
all_figures (b ∷ s) e = let z = both (digit b) (all digit s) e in rw z.0 (all_figures s z.1)

-- ---- a number has figures alone

figures_pointed : (w r : List ℕ) {v : Float} → pointed w r ≡ some v → all numeral_byte r ≡ true
figures_pointed w [] e = refl
figures_pointed w (b ∷ []) e = let z : ◌≡◌ {A = ℕ} 0 1 = cc in absurd (omega arith)
figures_pointed w (b ∷ d ∷ ds) {v} e = go (among "." b && all digit (d ∷ ds)) refl e
  where
    point : (t : Bool) → among "." b ≡ t → t ≡ true → numeral_byte b ≡ true
    point true h k = dot (digit b)
      where
        dot : (u : Bool) → u || among "." b ≡ true
        dot true = refl
        dot false = h
    point false h k = absurd_bool (sym k)

    go :
        (t : Bool) → among "." b && all digit (d ∷ ds) ≡ t → cond t (within_digits w (d ∷ ds)) none ≡ some v
        → numeral_byte b && all numeral_byte (d ∷ ds) ≡ true
    go true h k =
        let z = both (among "." b) (all digit (d ∷ ds)) h in
        rw (point (among "." b) refl z.0, all_figures (d ∷ ds) z.1)
    go false h k = let z : ◌≡◌ {A = ℕ} 0 1 = cc in absurd (omega arith)

figures_after : (s : List ℕ) → all numeral_byte (after digit s) ≡ true → after numeral_byte s ≡ []
figures_after [] e = refl
figures_after (b ∷ s) e = go (digit b) refl (figures_after s) e
  where
    go :
        (t : Bool) → digit b ≡ t → (all numeral_byte (after digit s) ≡ true → after numeral_byte s ≡ [])
        → all numeral_byte (skip_if t (after digit s) (b ∷ s)) ≡ true → after numeral_byte (b ∷ s) ≡ []
    go true h g k = rw (figure_byte b h) (g k)
    go false h g k = all_after numeral_byte (b ∷ s) k

pub no_number : (s : List ℕ) → (after numeral_byte s ≡ [] → ⊥) → numeral s ≡ none
no_number s h = go (numeral s) refl
  where
    go : (o : Option Float) → numeral s ≡ o → o ≡ none
    go none e = refl
    go (some v) e = absurd (h (figures_after s (figures_pointed (run digit s) (after digit s) e)))

-- ---- the number at the start, against the whole text

pub empty_none : (s : List ℕ) → length s ≡ 0 → None ≡ number s
empty_none [] e = refl
empty_none (b ∷ s) e = absurd (omega arith)

module _ (s : List ℕ) (h : length s ≡ 0 → ⊥) where
  pub number_is : number s ≡ if_found (numeral s)
  number_is = go s h
    where
      go : (t : List ℕ) → (length t ≡ 0 → ⊥) → number t ≡ if_found (numeral t)
      go [] k = absurd (k refl)
      go (b ∷ t) k = refl

  pub begins_ill : numeral_byte (get_or s 0 0) ≡ false → None ≡ number s
  begins_ill e = sym (number_is ∙ ap if_found (no_number s (go s h e)))
    where
      go : (t : List ℕ) → (length t ≡ 0 → ⊥) → numeral_byte (get_or t 0 0) ≡ false → after numeral_byte t ≡ [] → ⊥
      go [] k f g = k refl
      go (b ∷ t) k f g = let g' : b ∷ t ≡ [] = rw f at g in let z : ◌≡◌ {A = ℕ} 0 1 = cc in omega arith

  pub goes_ill : Numbered s 0 None → None ≡ number s
  goes_ill n = sym (number_is ∙ ap if_found (go (after numeral_byte s) refl))
    where
      wrong : numeral (run numeral_byte s) ≡ none
      wrong = n

      go : (t : List ℕ) → after numeral_byte s ≡ t → numeral s ≡ none
      go [] k = ap numeral (sym (run_whole numeral_byte s k)) ∙ wrong
      go (b ∷ t) k = no_number s (λ g. let z : ◌≡◌ {A = ℕ} 0 1 = cc in omega arith)

  module _ {v : Float} {p : ℕ} (n : Numbered s 0 (Some (v, p))) where
    reads : Ends s 0 p × (numeral (run numeral_byte s) ≡ some v)
    reads = n

    pub ends_there : p ≡ length s → Some v ≡ number s
    ends_there q =
        let k : after numeral_byte s ≡ [] = reads.0.behind ∙ ap (λ (i : ℕ). drop i s) q ∙ drop-length s in
        sym (number_is ∙ ap if_found (ap numeral (sym (run_whole numeral_byte s k)) ∙ reads.1))

    pub ends_before : (p ≡ length s → ⊥) → None ≡ number s
    ends_before q =
        let w = reads.0.within in
        let l : p < length s = omega arith in
        sym
        (number_is ∙ ap if_found (no_number s
        (λ g. let f : get_or s p 0 ∷ drop (suc p) s ≡ [] = sym (drop-cons s p 0 l) ∙ sym reads.0.behind ∙ g in let z : ◌≡◌ {A = ℕ} 0 1 = cc in omega arith)))
