-- Texts that end below the greatest usize.
use Rattle.std.specs.Prelude.{List, ℕ, ◌+◌, ◌<◌, length}
use Rattle.byte_write.specs.Put.{usize_limit}

-- the place behind a text that is written at a place is a usize
pub record Room (at : ℕ) (ws : List ℕ) : Type 0 where
  pub fits : at + length ws < usize_limit
