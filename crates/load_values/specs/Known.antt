-- What a text stands for, as the answers of the functions.
use Rattle.std.specs.Prelude.{Option, Some, None, Bool, cond, not, ◌&&◌, ℕ, eqb}
use Rattle.std.proofs.Math.Option as math

-- the same, as the code answers it
abbrev pub known : {A : Type 0} → math.Option A → Option A
known math.none = None
known (math.some x) = Some x

-- the level of a whole number, below zero or not
abbrev pub level_by : ℕ → Bool → math.Option ℕ
level_by n negative = cond (eqb n 0) (math.some 0) (cond (eqb n 1 && not negative) (math.some 1) math.none)
