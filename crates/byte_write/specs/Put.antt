-- Writing bytes at a place. What lies past the end is skipped, and the place moves on all the same.
use Rattle.std.specs.Prelude.{Bool, cond, List, ◌≡◌, ℕ, ◌+◌, length}
use Rattle.std.proofs.lemmas.List.Edits.{sets}
use Rattle.spec_lists.specs.Text.{lower_byte}

-- every usize is less
abbrev pub usize_limit : ℕ
usize_limit = 18446744073709551616

-- writing bs at a place turns the bytes b into c, and r is the place behind them
pub record Put (b c : List ℕ) (at : ℕ) (bs : List ℕ) (r : ℕ) : Type 0 where
  pub bytes : c ≡ sets b at bs
  pub end : r ≡ at + length bs

-- a byte, in lower case if asked
abbrev pub cased : Bool → ℕ → ℕ
cased low b = cond low (lower_byte b) b
