-- The answers as numbers, for callers in C: include/hrazvanut.h takes them apart again.
use Rattle.std.specs.Prelude.{Bool, cond, ℕ, ◌+◌, ◌*◌, min}
use Rattle.std.proofs.Math.Option.{Option, none, some}
use Rattle.spec_rule.specs.Number.{decision_number}
use Rattle.spec_file.specs.Refusal as refusal
use Rattle.spec_load.specs.declared.Loaded.{Loaded}
use Rattle.spec_load.specs.declared.Loaded.TheVariants as loaded
use Rattle.spec_load.specs.declared.Listed.{Listed}
use Rattle.spec_load.specs.declared.Listed.TheVariants as listed
use Rattle.spec_decision.specs.declared.Answer.{Answer}
use Rattle.spec_decision.specs.declared.Found.{Found}
use Rattle.spec_decision.specs.declared.Found.TheVariants as found
use Rattle.spec_decision.specs.Decision as decision
use Rattle.spec_decision.specs.LookUp as look_up
use Rattle.spec_export.specs.declared.Exported.{Exported}
use Rattle.spec_export.specs.Export as export

-- a first number in bits 0 to 31, a second in bits 32 to 47, a refusal's number above them. Greater numbers do not come: no place and
-- no length of a text or a table needs more than 32 bits, no number of warnings and no length of a name more than 16.
abbrev pub packed : ℕ → ℕ → ℕ → ℕ
packed first second number = min first 4294967295 + min second 65535 * 4294967296 + number * 281474976710656

-- 01 has no refusal 0: it says that there is none
abbrev pub or_zero : Option ℕ → ℕ
or_zero none = 0
or_zero (some n) = n

-- a load: the length and the number of warnings, or the place and the refusal
abbrev pub load_number : Loaded → ℕ
load_number (loaded.Accepted n w) = packed n w 0
load_number (loaded.Refused k p) = packed p 0 (refusal.number k)

-- the warnings: how many, or the place and the refusal
abbrev pub listed_number : Listed → ℕ
listed_number (listed.Warnings n) = packed n 0 0
listed_number (listed.Refused k p) = packed p 0 (refusal.number k)

-- a question: access, trap and letter as a register keeps them, and the refusal
abbrev pub answer_number : Answer → ℕ
answer_number a = packed (decision_number (decision.decision_in a)) 0 (or_zero (decision.number a))

-- where a name stands, and its length
abbrev pub at_in : Found → ℕ
at_in (found.Part at n) = at
at_in found.NotTable = 0
at_in found.NoInput = 0

abbrev pub length_in : Found → ℕ
length_in (found.Part at n) = n
length_in found.NotTable = 0
length_in found.NoInput = 0

-- a look-up: these, and the refusal
abbrev pub found_number : Found → ℕ
found_number f = packed (at_in f) (length_in f) (or_zero (look_up.number f))

-- an export: the text's length, or with 28 the bytes needed, and the refusal
abbrev pub exported_number : Exported → ℕ
exported_number e = packed (export.bytes_in e) 0 (or_zero (export.number e))

-- yes or no
abbrev pub yes : Bool → ℕ
yes b = cond b 1 0
