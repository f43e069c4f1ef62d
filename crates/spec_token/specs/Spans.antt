-- A run of bytes of a class, from a place to a place.
use Rattle.std.specs.Prelude.{◌≡◌, Bool, List, ℕ, ◌+◌, ◌≤◌, length, drop}
use Rattle.spec_lists.specs.Select.{run}

-- the run of bytes that pass p, from a place to a place
pub record Span (p : ℕ → Bool) (s : List ℕ) (from to : ℕ) : Type 0 where
  pub ends : to ≡ from + length (run p (drop from s))
  pub onward : from ≤ to
  pub within : to ≤ length s
