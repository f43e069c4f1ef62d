-- Writing from an offset on, as far as there is room.
use Rattle.std.specs.Prelude.{◌≡◌, cond, List, ℕ, ◌+◌, ◌≤◌, leb, length}
use Rattle.std.proofs.lemmas.List.Edits.{sets}

-- the offset behind what was written: at most the end
abbrev pub reached : ℕ → ℕ → ℕ
reached room n = cond (leb n room) n room

-- the bytes b hold ws from an offset on afterwards, as far as they reach, and are c; behind that stands r
pub record Put (ws b : List ℕ) (at : ℕ) (c : List ℕ) (r : ℕ) : Type 0 where
  pub bytes : c ≡ sets b at ws
  pub end : r ≡ reached (length b) (at + length ws)

-- ws stands in the lent bytes from their start on, and has so many bytes at most
pub record Stands (ws b c : List ℕ) (r most : ℕ) : Type 0 where
  pub put : Put ws b 0 c r
  pub short : length ws ≤ most
