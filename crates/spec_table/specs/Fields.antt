-- Where the fields of a table's records and its strings stand in the bytes: one law over the section, its width and the field.
use Rattle.std.specs.Prelude.{List, [], ◌∷◌, ℕ, ◌+◌, ◌*◌, ◌≤◌, length, get_or}
use Rattle.spec_lists.specs.Runs.{Run}
use Rattle.spec_file.specs.Limit.{Section, order}
use Rattle.spec_table.specs.Layout.{width, header_bytes}
use Rattle.spec_table.specs.View.{offset_of}

-- the word at a byte
abbrev pub word_at : List ℕ → ℕ → ℕ
word_at b i = get_or b i 0 + get_or b (i + 1) 0 * 256

-- runs that follow each other lie between their ends
pub data Between (n e : ℕ) : List Run → Type 0 where
  none_between : Between n e []
  one_between : {r : Run} {rs : List Run} → n ≤ r.first → r.first + r.count ≤ e → Between n e rs → Between n e (r ∷ rs)

-- a run within bytes, behind the header
pub record Inside (b : List ℕ) (r : Run) : Type 0 where
  pub behind_header : header_bytes ≤ r.first
  pub ends : r.first + r.count ≤ length b

-- where the j-th word of the i-th record of a section stands
abbrev pub field_place : List ℕ → Section → ℕ → ℕ → ℕ
field_place b s i j = offset_of b (order s) + (i * width s + j) * 2
