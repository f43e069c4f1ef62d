-- What is done at each place, the last first: each record is as its own turn left it.
use Rattle.std.specs.Prelude.{◌≡◌, refl, List, ℕ, zero, suc, ◌≤◌, ◌<◌, length}
use Rattle.std.proofs.Common.{sym, ap, ◌∙◌, ⊎_elim, eq-or-lt_of_le, arith}
use Rattle.spec_places.specs.Storage.{right_in}
use Rattle.spec_places.specs.Writing.{each}
use Rattle.spec_places.proofs.laws.Records.{record_at, right_same}
use Rattle.spec_places.proofs.laws.Frame.{Local}

module _ {f : List ℕ → ℕ → List ℕ} (k : Local f) where
  -- a turn goes by its place's record
  pub own_same : (b c : List ℕ) (q : ℕ) → record_at q b ≡ record_at q c → record_at q (f b q) ≡ record_at q (f c q)
  own_same b c q e = k.own b q ∙ ap (λ (r : List ℕ). f r 0) e ∙ sym (k.own c q)

  pub each_length : (n : ℕ) (b : List ℕ) → length (each f n b) ≡ length b
  each_length zero b = refl
  each_length (suc p) b = each_length p (f b p) ∙ k.same_length b p

  pub each_beyond : (n q : ℕ) (b : List ℕ) → n ≤ q → record_at q (each f n b) ≡ record_at q b
  each_beyond zero q b h = refl
  each_beyond (suc p) q b h = each_beyond p q (f b p) (omega arith) ∙ k.other b p q (λ e. omega arith)

  pub each_at : (n q : ℕ) (b : List ℕ) → q < n → record_at q (each f n b) ≡ record_at q (f b q)
  each_at zero q b h = absurd (omega arith)
  each_at (suc p) q b h =
      ⊎_elim
      (λ (e : q ≡ p). each_beyond p q (f b p) (omega arith) ∙ ap (λ (n : ℕ). record_at q (f b n)) (sym e))
      (λ (l : q < p). each_at p q (f b p) l ∙ own_same (f b p) b q (k.other b p q (λ e. omega arith)))
      (eq-or-lt_of_le (let l : q ≤ p = omega arith in l))

  pub right_each : (n q : ℕ) (b : List ℕ) → q < n → right_in (each f n b) q ≡ right_in (f b q) q
  right_each n q b h = right_same (each f n b) (f b q) q (each_at n q b h) (each_length n b ∙ sym (k.same_length b q))
