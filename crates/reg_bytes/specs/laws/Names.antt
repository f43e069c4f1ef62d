-- A part of a place, as code cuts it out.
use Rattle.std.specs.Prelude.{◌≡◌, refl, List, ℕ, ◌+◌, ◌-◌, take, drop, get_or}
use Rattle.std.proofs.Common.{ap, ap₂, arith}
use Rattle.spec_lists.specs.Runs.{part}
use Rattle.spec_register.specs.Register.{client_of}
use Rattle.spec_places.specs.Storage.{client_from, length_at}

pub cut_out : (b : List ℕ) {x n f k : ℕ} → x ≡ f → n ≡ k → take ((x + n) - x) (drop x b) ≡ part (record { first = f; count = k }) b
cut_out b {x} {n} {f} {k} e g =
    let z : (x + n) - x ≡ k = omega arith in
    ap₂ (λ (m i : ℕ). take m (drop i b)) z e

pub cut_client :
    (b : List ℕ) (at : ℕ) {g u h l : ℕ} → l ≡ get_or b (at + 1) 0 → g ≡ length_at b (at + 2) → u ≡ length_at b (at + 3) → h ≡ length_at b (at + 4)
    → client_of
    (take ((at + 5 + g) - (at + 5)) (drop (at + 5) b))
    l
    (take ((at + 5 + g + u) - (at + 5 + g)) (drop (at + 5 + g) b))
    (take ((at + 5 + g + u + h) - (at + 5 + g + u)) (drop (at + 5 + g + u) b))
    ≡ client_from b at
cut_client b at {g} {u} {h} d e f k =
    let x = cut_out b {x = at + 5} refl e in
    let y = cut_out b (ap (λ (n : ℕ). at + 5 + n) e) f in
    let z = cut_out b (ap₂ (λ (n m : ℕ). at + 5 + n + m) e f) k in
    cc
