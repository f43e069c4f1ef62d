-- The longest run is the one that a scanner takes byte by byte.
use Rattle.std.specs.Prelude.{◌≡◌, refl, Bool, true, false, List, [], ◌∷◌, ◌++◌, ℕ, take}
use Rattle.std.proofs.Common.{ap, sym, ◌∙◌}
use Rattle.spec_lists.specs.Select.{all, any, run, keep_if, after, skip_if}
use Rattle.spec_lists.proofs.laws.Both.{both, or_false}
use Rattle.spec_token.specs.Token.{Longest}

module _ (p : ℕ → Bool) where
  pub longest_run : (s : List ℕ) → Longest p s (run p s) (after p s)
  longest_run [] = record { parts = refl; pass = refl; ends = refl }
  longest_run (x ∷ s) = go (p x) refl (longest_run s)
    where
      go : (b : Bool) → p x ≡ b → Longest p s (run p s) (after p s) → Longest p (x ∷ s) (keep_if b x (run p s)) (skip_if b (after p s) (x ∷ s))
      go true e h = record { parts = ap (λ (l : List ℕ). x ∷ l) h.parts; pass = rw e h.pass; ends = h.ends }
      go false e h = record { parts = refl; pass = refl; ends = rw e }

  no_start : (x : ℕ) (s : List ℕ) → any p (take 1 (x ∷ s)) ≡ false → p x ≡ false
  no_start x s e = sym (or_false (p x)) ∙ e

  pub run_of : (w r : List ℕ) → all p w ≡ true → any p (take 1 r) ≡ false → run p (w ++ r) ≡ w
  run_of [] [] a e = refl
  run_of [] (x ∷ r) a e = rw (no_start x r e)
  run_of (x ∷ w) r a e = let h = both (p x) (all p w) a in rw h.0 (ap (λ (l : List ℕ). x ∷ l) (run_of w r h.1 e))

  pub after_of : (w r : List ℕ) → all p w ≡ true → any p (take 1 r) ≡ false → after p (w ++ r) ≡ r
  after_of [] [] a e = refl
  after_of [] (x ∷ r) a e = rw (no_start x r e)
  after_of (x ∷ w) r a e = let h = both (p x) (all p w) a in rw h.0 (after_of w r h.1 e)
