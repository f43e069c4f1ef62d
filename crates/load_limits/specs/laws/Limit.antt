-- How long a token's text is.
use Rattle.std.specs.Prelude.{List, ℕ, ◌≤◌, length}
use Rattle.load_tokens.specs.Arrays.{between}
use Rattle.load_tokens.specs.laws.Arrays.{between_within}

-- no longer than the text of which it is a part
between_bound : (s : List ℕ) (a e : ℕ) → length (between s a e) ≤ length s
between_bound = between_within
