-- The longest run at the start of a list, and what follows it.
use Rattle.std.specs.Prelude.{◌≡◌, refl, Bool, true, false, List, [], ◌∷◌, ◌++◌}
use Rattle.std.proofs.Common.{ap}
use Rattle.spec_lists.specs.Select.{all, run, after, keep_if, skip_if}
use Rattle.spec_lists.proofs.laws.Both.{both}

module _ {A : Type 0} (p : A → Bool) where
  pub all_run : (s : List A) → all p (run p s) ≡ true
  all_run [] = refl
  all_run (b ∷ s) = go (p b) refl (all_run s)
    where
      go : (t : Bool) → p b ≡ t → all p (run p s) ≡ true → all p (keep_if t b (run p s)) ≡ true
      go true e h = rw (e, h)
      go false e h = refl

  pub run_after : (s : List A) → s ≡ run p s ++ after p s
  run_after [] = refl
  run_after (b ∷ s) = go (p b) (run_after s)
    where
      go : (t : Bool) → s ≡ run p s ++ after p s → b ∷ s ≡ keep_if t b (run p s) ++ skip_if t (after p s) (b ∷ s)
      go true h = ap (λ (l : List A). b ∷ l) h
      go false h = refl

  -- a run to the end
  pub run_all : (s : List A) → all p s ≡ true → (run p s ≡ s) × (after p s ≡ [])
  run_all [] e = (refl, refl)
  run_all (b ∷ s) e = let z = both (p b) (all p s) e in let h = run_all s z.1 in (rw z.0 (ap (λ (l : List A). b ∷ l) h.0), rw z.0 h.1)

  -- a run up to an element that fails
  pub run_before : (w : List A) (c : A) (r : List A) → all p w ≡ true → p c ≡ false → (run p (w ++ (c ∷ r)) ≡ w) × (after p (w ++ (c ∷ r)) ≡ c ∷ r)
  run_before [] c r e f = (rw f, rw f)
  run_before (b ∷ w) c r e f =
      let z = both (p b) (all p w) e in
      let h = run_before w c r z.1 f in
      (rw z.0 (ap (λ (l : List A). b ∷ l) h.0), rw z.0 h.1)
