-- What the scanner takes for a number is a number by 01's three forms, and the other way round.
use Rattle.std.specs.Prelude.{◌≡◌, refl, Bool, true, false, cond, ◌&&◌, List, [], ◌∷◌, ◌++◌, ℕ, ◌+◌, ◌≤◌, leb, eqb, length, Float}
use Rattle.std.proofs.Common.{sym, ◌∙◌, subst, append-nil, arith, leb-true, le-leb, eqb-true}
use Rattle.std.proofs.Math.Option.{none, some}
use Rattle.spec_lists.specs.Text.{among, digit, whole}
use Rattle.spec_lists.specs.Select.{all, run, after}
use Rattle.spec_lists.proofs.laws.Both.{both, or_false}
use Rattle.spec_lists.proofs.laws.Front.{all_run, run_after, run_all, run_before}
use Rattle.spec_calc.specs.Symbol.{decimal, most_digits, Digits, Number, whole_number, with_point, behind_point}
use Rattle.spec_calc.specs.Scanner.{within_digits, pointed, numeral}

pub within_some : (w f : List ℕ) → length w + length f ≤ most_digits → within_digits w f ≡ some (decimal (whole 0 (w ++ f)) (length f))
within_some w f h = rw (le-leb (length w + length f) most_digits h)

pub digits_behind : (w f : List ℕ) → 1 ≤ length f → all digit f ≡ true → pointed w (46 ∷ f) ≡ within_digits w f
digits_behind w [] h e = absurd (omega arith)
digits_behind w (d ∷ f) h e = rw e

pub numeral_complete : {s : List ℕ} {v : Float} → Number s v → numeral s ≡ some v
numeral_complete (whole_number {w = w} d h) =
    let z = run_all digit w d.0 in
    rw (z.0, z.1) (within_some w [] (omega arith) ∙ rw (append-nil w))
numeral_complete (with_point w f d g e h) =
    let z = run_before digit w 46 f d.0 refl in rw (e, z.0, z.1) (digits_behind w f g.1 g.0 ∙ within_some w f h)
numeral_complete (behind_point {f = f} g h) = digits_behind [] f g.1 g.0 ∙ within_some [] f (omega arith)

-- what is within 15 digits has that value
within_is : (w f : List ℕ) {v : Float} → within_digits w f ≡ some v → (length w + length f ≤ most_digits) × (decimal (whole 0 (w ++ f)) (length f) ≡ v)
within_is w f {v} e = go (leb (length w + length f) most_digits) refl e
  where
    go :
        (t : Bool) → leb (length w + length f) most_digits ≡ t → cond t (some (decimal (whole 0 (w ++ f)) (length f))) none ≡ some v
        → (length w + length f ≤ most_digits) × (decimal (whole 0 (w ++ f)) (length f) ≡ v)
    go true l e = (leb-true (length w + length f) most_digits l, cc)
    go false l e = let z : ◌≡◌ {A = ℕ} 0 1 = cc in absurd (omega arith)

-- whole digits, maybe none, then a point and digits
pointed_number : (w f : List ℕ) {v : Float} → all digit w ≡ true → Digits f → within_digits w f ≡ some v → Number (w ++ (46 ∷ f)) v
pointed_number [] f e g h = let z = within_is [] f h in subst (Number (46 ∷ f)) z.1 (behind_point g (omega (arith, z.0)))
pointed_number (b ∷ w) f e g h =
    let z = within_is (b ∷ w) f h in subst (Number ((b ∷ w) ++ (46 ∷ f))) z.1 (with_point (b ∷ w) f (e, omega arith) g refl z.0)

parts_number : (w r : List ℕ) {v : Float} → all digit w ≡ true → 1 ≤ length (w ++ r) → pointed w r ≡ some v → Number (w ++ r) v
parts_number w [] {v} e l h =
    let z = within_is w [] h in
    let q : w ++ [] ≡ w = append-nil w in
    rw q (subst (Number w) (rw q at z.1) (whole_number (e, rw q at l) (omega (arith, z.0))))
parts_number w (b ∷ []) e l h = let z : ◌≡◌ {A = ℕ} 0 1 = cc in absurd (omega arith)
parts_number w (b ∷ d ∷ ds) {v} e l h = go (among "." b && all digit (d ∷ ds)) refl h
  where
    go : (t : Bool) → among "." b && all digit (d ∷ ds) ≡ t → cond t (within_digits w (d ∷ ds)) none ≡ some v → Number (w ++ (b ∷ d ∷ ds)) v
    go true q h =
        let z = both (among "." b) (all digit (d ∷ ds)) q in
        rw (eqb-true b 46 (sym (or_false (eqb b 46)) ∙ z.0)) (pointed_number w (d ∷ ds) e (z.1, omega arith) h)
    go false q h = let z : ◌≡◌ {A = ℕ} 0 1 = cc in absurd (omega arith)

pub numeral_sound : (s : List ℕ) {v : Float} → 1 ≤ length s → numeral s ≡ some v → Number s v
numeral_sound s {v} l h =
    let q = run_after digit s in
    subst (λ (y : List ℕ). Number y v) (sym q) (parts_number (run digit s) (after digit s) (all_run digit s) (subst (λ (y : List ℕ). 1 ≤ length y) q l) h)
