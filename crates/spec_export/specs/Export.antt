-- An export: what it answers and what it leaves in the lent bytes. 02, ticket 6.
use Rattle.std.specs.Prelude.{cond, List, ◌++◌, ℕ, leb, length, drop}
use Rattle.std.proofs.Math.Option.{Option, none, some}
use Rattle.spec_table.specs.Layout.{Content}
use Rattle.spec_table.specs.View.{view}
use Rattle.spec_table.specs.Check.{is_table}
use Rattle.spec_decision.specs.Decision.{not_table_number}
use Rattle.spec_export.specs.declared.Exported.{Exported}
use Rattle.spec_export.specs.declared.Exported.TheVariants.{Written, NotTable, Unwritable, NoRoom}
use Rattle.spec_export.specs.Unwritable.{text_in, unwritable}

-- "27 a string holding bytes that no quoted text can hold, or .."
abbrev pub unwritable_number : ℕ
unwritable_number = 27

-- "28 text longer than the lent buffer"
abbrev pub no_room_number : ℕ
no_room_number = 28

-- the papers' number of a refusal
abbrev pub number : Exported → Option ℕ
number (Written n) = none
number NotTable = some not_table_number
number Unwritable = some unwritable_number
number (NoRoom n) = some no_room_number

-- the text's length; with 28 the bytes needed
abbrev pub bytes_in : Exported → ℕ
bytes_in (Written n) = n
bytes_in NotTable = 0
bytes_in Unwritable = 0
bytes_in (NoRoom n) = n

-- ---- what it answers

-- 28: a text that needs more bytes than are lent
abbrev pub if_room : ℕ → ℕ → Exported
if_room needed n = cond (leb needed n) (Written needed) (NoRoom needed)

-- 27, then the rest
abbrev pub of_content : ℕ → Content → Exported
of_content n c = cond (unwritable c) Unwritable (if_room (length (text_in c)) n)

-- the answer to an export of the table b into n lent bytes. "Refusals: 20; then 27 [..]; then 28"
unfoldable pub exported : ℕ → List ℕ → Exported
exported n b = cond (is_table b) (of_content n (view b)) NotTable

-- ---- what it leaves

-- a text is written at the start of the lent bytes, and those behind it stay; a refused export leaves all of them
abbrev pub left : List ℕ → List ℕ → Exported → List ℕ
left lent text (Written n) = text ++ drop (length text) lent
left lent text NotTable = lent
left lent text Unwritable = lent
left lent text (NoRoom n) = lent

-- the answer, and the lent bytes afterwards
pub record Result : Type 0 where
  pub answer : Exported
  pub bytes : List ℕ

-- the export of the table b into lent bytes
abbrev pub export : List ℕ → List ℕ → Result
export lent b = record { answer = exported (length lent) b; bytes = left lent (text_in (view b)) (exported (length lent) b) }
