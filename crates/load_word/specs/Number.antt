-- Where the sign of a number ends. 001, "Lexical tokens".
use Rattle.std.specs.Prelude.{◌≡◌, List, ℕ, ◌≤◌, length, drop}
use Rattle.spec_token.specs.Word.{unsigned}

-- the place behind the sign that may stand at a place
pub record Unsigned (w : List ℕ) (at r : ℕ) : Type 0 where
  pub rest : drop r w ≡ unsigned (drop at w)
  pub within : r ≤ length w
