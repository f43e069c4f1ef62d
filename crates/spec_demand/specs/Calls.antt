-- The library's calls, and what each does to the table. 01, "The work, and who decides" and "What the contracts owe".
use Rattle.std.specs.Prelude.{◌≡◌, false, List, [], ◌∷◌, ℕ}
use Rattle.std.proofs.Math.Option.{Option, none, some, map}
use Rattle.spec_calc.specs.declared.Reading.{Reading}
use Rattle.spec_rule.specs.Question.{Question}
use Rattle.spec_file.specs.declared.Refusal.{Refusal}
use Rattle.spec_file.specs.Refusal as refusal
use Rattle.spec_load.specs.declared.Loaded.{Loaded}
use Rattle.spec_load.specs.declared.Loaded.TheVariants as loaded
use Rattle.spec_load.specs.declared.Listed.{Listed}
use Rattle.spec_load.specs.declared.Listed.TheVariants as listed
use Rattle.spec_load.specs.Load.{load}
pub use Rattle.spec_load.specs.Load.{is_accepted}
use Rattle.spec_load.specs.Listing.{listing}
use Rattle.spec_decision.specs.Decision as question
use Rattle.spec_decision.specs.LookUp as look_up
use Rattle.spec_decision.specs.Walk.{group_at}
use Rattle.spec_decision.specs.Decision.{not_table_number}
use Rattle.spec_export.specs.declared.Exported.{Exported}
use Rattle.spec_export.specs.declared.Exported.TheVariants as exports
use Rattle.spec_export.specs.Export.{exported, unwritable_number, no_room_number}

-- Every call of the library but a register's, which Register.antt adds; those of include/hrazvanut.h that are lent a text or a table, but a register's, are among them. What the crate sequence
-- offers are sequences of these.
pub data Call : Type 0 where
  -- of a text; of a text and how many of its warnings are skipped
  load_text : List ℕ → Call
  list_warnings : List ℕ → ℕ → Call
  check_table : Call
  -- a question, also of a table that was checked before
  ask : Question → Call
  ask_checked : Question → Call
  -- of a group's letter: where its input's name stands; the name itself
  find_input : List ℕ → ℕ → Call
  find_input_checked : List ℕ → ℕ → Call
  look_up_name : List ℕ → ℕ → Call
  -- of a number: where the name of that access group stands
  find_group : ℕ → Call
  -- into so many lent bytes: the table's text
  export_text : ℕ → Call
  -- of a calculation's text: whether it is allowed; on readings, its value, and whether it is true
  allow : List ℕ → Call
  calculate : List ℕ → List Reading → Call
  hold : List ℕ → List Reading → Call

-- the text that a call loads; every other call is lent the table to read only
abbrev pub text_loaded : Call → Option (List ℕ)
text_loaded (load_text s) = some s
text_loaded (list_warnings s skip) = none
text_loaded check_table = none
text_loaded (ask q) = none
text_loaded (ask_checked q) = none
text_loaded (find_input g letter) = none
text_loaded (find_input_checked g letter) = none
text_loaded (look_up_name g letter) = none
text_loaded (find_group n) = none
text_loaded (export_text n) = none
text_loaded (allow s) = none
text_loaded (calculate s rs) = none
text_loaded (hold s rs) = none

-- the table's bytes after a call
abbrev pub after_load : List ℕ → Option (List ℕ) → List ℕ
after_load b none = b
after_load b (some s) = (load b s).bytes

abbrev pub after_call : List ℕ → Call → List ℕ
after_call b c = after_load b (text_loaded c)

abbrev pub after_calls : List ℕ → List Call → List ℕ
after_calls b [] = b
after_calls b (c ∷ cs) = after_calls (after_call b c) cs

-- ---- until the next accepted load

abbrev pub NoNewTable : List ℕ → Option (List ℕ) → Type 0
NoNewTable b none = Unit {0}
NoNewTable b (some s) = is_accepted (load b s).answer ≡ false

-- "until the next accepted load, whatever calls, refused loads too, come between"
abbrev pub NoAcceptedLoad : List ℕ → List Call → Type 0
NoAcceptedLoad b [] = Unit {0}
NoAcceptedLoad b (c ∷ cs) = NoNewTable b (text_loaded c) × NoAcceptedLoad (after_call b c) cs

-- ---- refused calls

-- demand 1: "A refusal carries a number, a load's also a place."
pub record Told : Type 0 where
  pub number : ℕ
  pub place : Option ℕ

abbrev pub at_place : Refusal → ℕ → Told
at_place r p = record { number = refusal.number r; place = some p }

abbrev pub no_place : ℕ → Told
no_place n = record { number = n; place = none }

abbrev pub load_told : Loaded → Option Told
load_told (loaded.Accepted n w) = none
load_told (loaded.Refused r p) = some (at_place r p)

abbrev pub listing_told : Listed → Option Told
listing_told (listed.Warnings n) = none
listing_told (listed.Refused r p) = some (at_place r p)

-- 28 with the bytes needed, as a load's 11
abbrev pub exported_told : Exported → Option Told
exported_told (exports.Written n) = none
exported_told exports.NotTable = some (no_place not_table_number)
exported_told exports.Unwritable = some (no_place unwritable_number)
exported_told (exports.NoRoom n) = some (record { number = no_room_number; place = some n })

-- What a call on a table's bytes is refused with. A check and the calculation's calls never are; of a look-up, find_input tells the number.
abbrev pub refusal_of : List ℕ → Call → Option Told
refusal_of b (load_text s) = load_told (load b s).answer
refusal_of b (list_warnings s skip) = listing_told (listing skip [] [] s).answer
refusal_of b check_table = none
refusal_of b (ask q) = map no_place (question.number (question.decide b q))
refusal_of b (ask_checked q) = map no_place (question.number (question.decide b q))
refusal_of b (find_input g letter) = map no_place (look_up.number (look_up.look_up b g letter))
refusal_of b (find_input_checked g letter) = map no_place (look_up.number (look_up.look_up b g letter))
refusal_of b (look_up_name g letter) = map no_place (look_up.number (look_up.look_up b g letter))
refusal_of b (find_group n) = map no_place (look_up.number (group_at b n))
refusal_of b (export_text n) = exported_told (exported n b)
refusal_of b (allow s) = none
refusal_of b (calculate s rs) = none
refusal_of b (hold s rs) = none
