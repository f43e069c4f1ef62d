-- Where the next bytes are written, and what a writing leaves.
use Rattle.std.specs.Prelude.{List, ◌≡◌, ℕ, ◌≤◌}
use Rattle.std.proofs.lemmas.List.Edits.{sets}
use Rattle.load_records.specs.declared.Cursor.{Cursor}

abbrev pub cursor : ℕ → ℕ → ℕ → ℕ → Cursor
cursor a o f s = record { at = a; string = o; first = f; second = s }

-- writing bs at the cursor p turns the bytes b into c, and r is the cursor t
pub record Emitted (b c : List ℕ) (p : Cursor) (bs : List ℕ) (t r : Cursor) : Type 0 where
  pub bytes : c ≡ sets b p.at bs
  pub moved : r ≡ t

-- every number of a cursor is at most b
pub record Bounded (b : ℕ) (p : Cursor) : Type 0 where
  pub at_bound : p.at ≤ b
  pub string_bound : p.string ≤ b
  pub first_bound : p.first ≤ b
  pub second_bound : p.second ≤ b

-- where a record is written the cursor is bounded by this, so that no sum overflows
abbrev pub cursor_limit : ℕ
cursor_limit = 1125899906842624
