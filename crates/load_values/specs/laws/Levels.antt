-- Whole numbers read byte by byte.
use Rattle.std.specs.Prelude.{◌≡◌, List, [], ◌∷◌, ℕ, ◌+◌, ◌-◌, ◌*◌, ◌≤◌, ◌<◌, length, drop, get_or}
use Rattle.std.proofs.Common.{add-one, arith, drop-cons}
use Rattle.spec_lists.specs.Text.{whole}

pub whole_least : (n : ℕ) (l : List ℕ) → n ≤ whole n l
whole_least n [] = omega arith
whole_least n (d ∷ ds) = omega (arith, whole_least (n * 10 + (d - 48)) ds)

pub whole_step : (t : List ℕ) (i v : ℕ) → i < length t → whole v (drop i t) ≡ whole (v * 10 + (get_or t i 0 - 48)) (drop (i + 1) t)
whole_step t i v h = rw (add-one i, drop-cons t i 0 h)
