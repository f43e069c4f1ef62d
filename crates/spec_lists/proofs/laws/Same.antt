-- Comparing two texts: what it says of them; and byte by byte, the first through a change of each byte.
use Rattle.std.specs.Prelude.{◌≡◌, refl, Bool, true, false, ◌&&◌, List, [], ◌∷◌, map, ◌↔◌, ℕ, suc, ◌+◌, ◌<◌, eqb, length, drop, get_or}
use Rattle.std.proofs.Common.{sym, ap, ◌∙◌, add-one, drop-cons, eqb-true, eq-eqb, ne_eqb}
use Rattle.std.proofs.lemmas.Bool.{false≢true}
use Rattle.std.proofs.Math.Seq.{drop-length}
use Rattle.spec_lists.specs.Text.{same}
use Rattle.spec_lists.proofs.laws.Both.{both}

pub same_true : (s t : List ℕ) → same s t ≡ true → s ≡ t
same_true [] [] e = refl
same_true [] (c ∷ t) e = absurd (false≢true e)
same_true (b ∷ s) [] e = absurd (false≢true e)
same_true (b ∷ s) (c ∷ t) e =
    let h = both (eqb b c) (same s t) e in
    let x = eqb-true b c h.0 in
    let y = same_true s t h.1 in
    cc

pub same_self : (s : List ℕ) → same s s ≡ true
same_self [] = refl
same_self (b ∷ s) = rw (eq-eqb b b refl, same_self s)

pub same_is : (s t : List ℕ) → (same s t ≡ true) ↔ (t ≡ s)
same_is s t = (λ h. sym (same_true s t h), λ e. rw e (same_self s))

pub unchanged : {A : Type 0} (a : List A) → map (λ x. x) a ≡ a
unchanged [] = refl
unchanged {A} (x ∷ a) = ap (λ (l : List A). x ∷ l) (unchanged a)

module _ (f : ℕ → ℕ) where
  pub same_length : (a b : List ℕ) → (length a ≡ length b → ⊥) → same (map f a) b ≡ false
  same_length [] [] h = absurd (h refl)
  same_length [] (y ∷ b) h = refl
  same_length (x ∷ a) [] h = refl
  same_length (x ∷ a) (y ∷ b) h = go (eqb (f x) y) (same_length a b (λ e. h (ap suc e)))
    where
      go : (t : Bool) → same (map f a) b ≡ false → t && same (map f a) b ≡ false
      go true e = e
      go false e = refl

  at :
      (a b : List ℕ) (i : ℕ) → i < length a → i < length b
      → same (map f (drop i a)) (drop i b) ≡ eqb (f (get_or a i 0)) (get_or b i 0) && same (map f (drop (i + 1) a)) (drop (i + 1) b)
  at a b i h l = rw (add-one i, drop-cons a i 0 h, drop-cons b i 0 l)

  -- the bytes at i are the same, so the rest decides; they differ; nothing is left
  pub same_on :
      (a b : List ℕ) (i : ℕ) → i < length a → i < length b → f (get_or a i 0) ≡ get_or b i 0
      → same (map f (drop i a)) (drop i b) ≡ same (map f (drop (i + 1) a)) (drop (i + 1) b)
  same_on a b i h l e = at a b i h l ∙ rw (eq-eqb (f (get_or a i 0)) (get_or b i 0) e)

  pub same_off : (a b : List ℕ) (i : ℕ) → i < length a → i < length b → (f (get_or a i 0) ≡ get_or b i 0 → ⊥) → same (map f (drop i a)) (drop i b) ≡ false
  same_off a b i h l e = at a b i h l ∙ rw (ne_eqb (f (get_or a i 0)) (get_or b i 0) e)

  pub same_end : (a b : List ℕ) (i : ℕ) → i ≡ length a → i ≡ length b → same (map f (drop i a)) (drop i b) ≡ true
  same_end a b i h l =
      ap (λ (n : ℕ). same (map f (drop n a)) (drop i b)) h
      ∙ ap (λ (n : ℕ). same (map f (drop (length a) a)) (drop n b)) l
      ∙ rw (drop-length a, drop-length b)
