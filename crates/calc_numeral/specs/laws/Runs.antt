-- Laws of a run of bytes from an offset on. Assumes nothing.
use Rattle.std.specs.Prelude.{◌≡◌, ℕ, ◌+◌, ◌<◌, Bool, true, false, List, [], ◌∷◌, length, drop, nat_le, slice_index, slice_index_or, refl}
use Rattle.std.proofs.Common.{sym, ◌∙◌, ap, arith, add-one, leb-true, leb-false, drop-cons, get_or-drop}
use Rattle.std.proofs.Math.ListN.{get_or-eq_default}
use Rattle.spec_lists.proofs.laws.Both.{absurd_bool}
use Rattle.spec_lists.specs.Select.{run, after, skip_if}

-- ---- a run from an offset on, of a test that 0 does not pass

module _ (p : ℕ → Bool) where
  pub run_stop : (y : List ℕ) → p (slice_index y 0) ≡ false → (run p y ≡ []) × (after p y ≡ y)
  run_stop [] e = (refl, refl)
  run_stop (b ∷ y) e = (rw e, rw e)

  pub after_head : p 0 ≡ false → (y : List ℕ) → p (slice_index (after p y) 0) ≡ false
  after_head z [] = z
  after_head z (b ∷ y) = go (p b) refl (after_head z y)
    where
      go : (t : Bool) → p b ≡ t → p (slice_index (after p y) 0) ≡ false → p (slice_index (skip_if t (after p y) (b ∷ y)) 0) ≡ false
      go true e h = h
      go false e h = e

  module _ (s : List ℕ) (at : ℕ) where
    pub head_at : slice_index_or (drop at s) 0 0 ≡ slice_index s at
    head_at = get_or-drop at s 0 0 ∙ ap (λ (n : ℕ). slice_index s n) (omega arith)

    pub passed_inside : p 0 ≡ false → p (slice_index s at) ≡ true → at < length s
    passed_inside z e = go (nat_le (length s) at) refl
      where
        go : (t : Bool) → nat_le (length s) at ≡ t → at < length s
        go true h = absurd_bool (sym e ∙ ap p (get_or-eq_default s 0 (leb-true (length s) at h)) ∙ z)
        go false h = leb-false (length s) at h

    pub run_more : p (slice_index s at) ≡ true → at < length s → run p (drop at s) ≡ slice_index s at ∷ run p (drop (at + 1) s)
    run_more e h = rw (add-one at, drop-cons s at 0 h, e)

    pub after_more : p (slice_index s at) ≡ true → at < length s → after p (drop at s) ≡ after p (drop (at + 1) s)
    after_more e h = rw (add-one at, drop-cons s at 0 h, e)

    pub stops : p (slice_index s at) ≡ false → (run p (drop at s) ≡ []) × (after p (drop at s) ≡ drop at s)
    stops e = run_stop (drop at s) (ap p head_at ∙ e)
