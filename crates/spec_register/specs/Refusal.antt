-- When a call of the register is refused. 02, ticket 1: "Refusals".
-- Functions that decide what Sentences.antt states (proofs/laws/Refused.antt); only `number` has to be read.
use Rattle.std.specs.Prelude.{Bool, true, not, List, [], ◌∷◌, ℕ, suc, leb, eqb, length}
use Rattle.std.proofs.Math.Option.{Option, none, some}
use Rattle.spec_lists.specs.Select.{any, first_if, missing}
use Rattle.spec_rule.specs.Answering.{a_level}
use Rattle.spec_file.specs.Limit.{longest_name}
use Rattle.spec_table.specs.View.{view}
use Rattle.spec_table.specs.Table.{letter_field}
use Rattle.spec_table.specs.Check.{is_table}
use Rattle.spec_decision.specs.Decision.{not_table_number, bad_level_number}
use Rattle.spec_decision.specs.LookUp.{links_in, no_input_number}
use Rattle.spec_decision.specs.Groups.{Numbered, group_named}
use Rattle.spec_register.specs.declared.Refused.{Refused}
use Rattle.spec_register.specs.declared.Refused.TheVariants.{NotRegister, NotTable, BadLevel, NoInput, LongName, NoPlace, NoClient}
use Rattle.spec_register.specs.Register.{Client, Register, client_at}

-- 02's numbers, and 20 to 22 of 01. 34 is ours: lent storage too short for a register.
abbrev pub number : Refused → ℕ
number NotRegister = 34
number NotTable = not_table_number
number BadLevel = bad_level_number
number NoInput = no_input_number
number LongName = 23
number NoPlace = 24
number NoClient = 25

-- a test for a cause of refusal: whether it applies, and what is answered then
pub record Test : Type 0 where
  pub applies : Bool
  pub refused : Refused

abbrev pub test : Bool → Refused → Test
test b x = record { applies = b; refused = x }

-- tests are made in their order
abbrev pub first_of : List Test → Option Refused
first_of [] = none
first_of (t ∷ ts) = first_if t.applies t.refused (first_of ts)

-- 23: "a client's name over 60 bytes"
abbrev pub long_name : Client → Bool
long_name c = any (λ n. not (leb (length n) longest_name)) (c.group ∷ c.user ∷ c.host ∷ [])

-- 21: "level neither 0 nor 1"
abbrev pub bad_level : Client → Bool
bad_level c = not (a_level c.level)

-- "Adding takes the lowest free place": how many stand before it
abbrev pub lowest_free : List (Option Client) → ℕ
lowest_free [] = 0
lowest_free (none ∷ cs) = 0
lowest_free (some c ∷ cs) = suc (lowest_free cs)

-- 24: "all 64 places taken"
abbrev pub all_taken : Register → Bool
all_taken r = eqb (lowest_free r.clients) (length r.clients)

-- 25: "a place with no client"
abbrev pub no_client : Register → ℕ → Bool
no_client r p = missing (client_at r p)

-- 22: "a reading for an undefined access group or a letter without input"
abbrev pub no_input : List ℕ → ℕ → Option Numbered → Bool
no_input b letter none = true
no_input b letter (some g) = not (any (λ i. eqb (letter_field i) letter) (links_in (view b) g.row))

-- ---- each call's causes in their order

-- "23 [..], then 21, then 24"
abbrev pub add_refusal : Register → Client → Option Refused
add_refusal r c = first_of (test (long_name c) LongName ∷ test (bad_level c) BadLevel ∷ test (all_taken r) NoPlace ∷ [])

-- "change and remove give 25 for a place with no client, before the others"
abbrev pub change_refusal : Register → ℕ → Client → Option Refused
change_refusal r p c = first_of (test (no_client r p) NoClient ∷ test (long_name c) LongName ∷ test (bad_level c) BadLevel ∷ [])

abbrev pub remove_refusal : Register → ℕ → Option Refused
remove_refusal r p = first_of (test (no_client r p) NoClient ∷ [])

-- "22, after 20"
abbrev pub set_refusal : List ℕ → List ℕ → ℕ → Option Refused
set_refusal b n letter = first_of (test (not (is_table b)) NotTable ∷ test (no_input b letter (group_named b n)) NoInput ∷ [])
