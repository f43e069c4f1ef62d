-- The lowest letter whose reading is bad: the function finds it, and finds none exactly if all are good.
use Rattle.std.specs.Prelude.{◌≡◌, refl, Bool, true, false, cond, ◌&&◌, ◌↔◌, ℕ, ◌≤◌, min, leb}
use Rattle.std.proofs.Common.{sym, ap, ◌∙◌, subst, arith, leb-true, leb-false}
use Rattle.std.proofs.lemmas.Bool.{false≢true}
use mathlib.Core.List.{List, [], ◌∷◌, Memᴰ}
use Rattle.std.proofs.Math.Option.{Option, none, some}
use Rattle.spec_lists.specs.Select.{all, missing}
use Rattle.spec_lists.specs.Every.{Every, nil, cons}
use Rattle.spec_lists.proofs.laws.Both.{both}
use Rattle.spec_lists.proofs.laws.Every.{every_implies}
use Rattle.spec_lists.proofs.laws.Member.{every_member}
use Rattle.spec_calc.specs.declared.Reading.{Reading}
use Rattle.spec_calc.specs.Value.{reading, good, LowestBad, lower, lowest, lowest_bad}

module _ (g : ℕ → Bool) where
  pub lowest_none : (is : List ℕ) → missing (lowest g is) ≡ all g is
  lowest_none [] = refl
  lowest_none (i ∷ is) = go (g i) (lowest_none is)
    where
      go : (b : Bool) → missing (lowest g is) ≡ all g is → missing (cond b (lowest g is) (some (lower i (lowest g is)))) ≡ b && all g is
      go true e = e
      go false e = refl

  -- at most every letter that is not good
  abbrev Under : ℕ → List ℕ → Type 0
  Under i is = Every (λ j. g j ≡ false → i ≤ j) is

  all_under : (i : ℕ) (is : List ℕ) → all g is ≡ true → Under i is
  all_under i [] e = nil
  all_under i (j ∷ is) e = let h = both (g j) (all g is) e in cons (λ f. absurd (false≢true (sym f ∙ h.0))) (all_under i is h.1)

  abbrev IsLowest : List ℕ → ℕ → Type 0
  IsLowest is i = Memᴰ i is × (g i ≡ false) × Under i is

  module _ (j : ℕ) (is : List ℕ) (i : ℕ) where
    -- a letter that is not good, before others of which k is the lowest
    before_lowest : (k : ℕ) → g j ≡ false → IsLowest is k → i ≡ min j k → IsLowest (j ∷ is) i
    before_lowest k b h z = go (leb j k) refl
      where
        go : (t : Bool) → leb j k ≡ t → IsLowest (j ∷ is) i
        go true l =
            let m = leb-true j k l in
            let y : i ≡ j = omega (arith, z, m) in
            (Memᴰ.head y, rw y b, cons {x = j} (λ x. omega (arith, y)) (every_implies (λ x f n. let w = f n in omega (arith, y, m, w)) h.2))
        go false l =
            let m = leb-false j k l in
            let y : i ≡ k = omega (arith, z, m) in
            let w = subst (IsLowest is) (sym y) h in
            (Memᴰ.tail w.0, w.1, cons {x = j} (λ x. omega (arith, y, m)) w.2)

    before : (o : Option ℕ) → lowest g is ≡ o → ((k : ℕ) → lowest g is ≡ some k → IsLowest is k) → g j ≡ false → some (lower j o) ≡ some i → IsLowest (j ∷ is) i
    before none p f b e =
        let z : i ≡ j = cc in
        (Memᴰ.head z, rw z b, cons {x = j} (λ x. omega (arith, z)) (all_under i is (sym (lowest_none is) ∙ ap missing p)))
    before (some k) p f b e = let z : i ≡ min j k = cc in before_lowest k b (f k p) z

  lowest_sound : (is : List ℕ) (i : ℕ) → lowest g is ≡ some i → IsLowest is i
  lowest_sound [] i e = let z : ◌≡◌ {A = ℕ} 0 1 = cc in absurd (omega arith)
  lowest_sound (j ∷ is) i e = go (g j) refl (lowest_sound is) e
    where
      go :
          (b : Bool) → g j ≡ b → ((k : ℕ) → lowest g is ≡ some k → IsLowest is k) → cond b (lowest g is) (some (lower j (lowest g is))) ≡ some i
          → IsLowest (j ∷ is) i
      go true b f h = let w = f i h in (Memᴰ.tail w.0, w.1, cons (λ x. absurd (false≢true (sym x ∙ b))) w.2)
      go false b f h = before j is i (lowest g is) refl f b h

  pub lowest_among : (is : List ℕ) (i : ℕ) → lowest g is ≡ some i → Memᴰ i is
  lowest_among is i e = (lowest_sound is i e).0

  not_all : {i : ℕ} {is : List ℕ} → Memᴰ i is → g i ≡ false → all g is ≡ true → ⊥
  not_all (Memᴰ.head {x = j} {xs = is} z) b e = false≢true (sym b ∙ rw z (both (g j) (all g is) e).0)
  not_all (Memᴰ.tail {x = j} {xs = is} m) b e = not_all m b (both (g j) (all g is) e).1

  lowest_complete : (is : List ℕ) (i : ℕ) → Memᴰ i is → g i ≡ false → Under i is → lowest g is ≡ some i
  lowest_complete is i m b u = go (lowest g is) refl
    where
      go : (o : Option ℕ) → lowest g is ≡ o → o ≡ some i
      go none p = absurd (not_all m b (sym (lowest_none is) ∙ ap missing p))
      go (some k) p =
          let h = lowest_sound is k p in
          let x = every_member h.2 m b in
          let y = every_member u h.0 h.1 in
          let z : k ≡ i = omega (arith, x, y) in
          ap some z

pub lowest_bad_is : (rs : List Reading) (is : List ℕ) (i : ℕ) → (lowest_bad rs is ≡ some i) ↔ LowestBad rs is i
lowest_bad_is rs is i = (
  λ e. let h = lowest_sound (λ j. good (reading rs j)) is i e in record { among = h.0; bad = h.1; lowest = h.2 },
  λ l. lowest_complete (λ j. good (reading rs j)) is i l.among l.bad l.lowest,
)
