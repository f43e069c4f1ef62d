-- A load: what it answers and what it leaves in the lent bytes. 01, "Load refusals, in their order".
use Rattle.std.specs.Prelude.{Bool, true, false, cond, List, ◌++◌, ℕ, leb, length, drop}
use Rattle.spec_grammar.specs.Sentence.{Tagged}
use Rattle.spec_file.specs.declared.Refusal.TheVariants.{NoRoom}
use Rattle.spec_file.specs.Contents.{file_of}
use Rattle.spec_file.specs.Warning.{warnings}
use Rattle.spec_file.specs.Load.{Verdict, refuse, accept, verdict}
use Rattle.spec_table.specs.Written.{table_of}
use Rattle.spec_load.specs.declared.Loaded.{Loaded}
use Rattle.spec_load.specs.declared.Loaded.TheVariants.{Accepted, Refused}

abbrev pub is_accepted : Loaded → Bool
is_accepted (Accepted n w) = true
is_accepted (Refused r p) = false

-- the answer, and the lent bytes afterwards
pub record Result : Type 0 where
  pub answer : Loaded
  pub bytes : List ℕ

-- "An accepted load writes the table at the start, and answers the length and the number of warnings."
abbrev pub written : List ℕ → List Tagged → Result
written lent xs =
    record {
      answer = Accepted (length (table_of (file_of xs))) (length (warnings xs));
      bytes = table_of (file_of xs) ++ drop (length (table_of (file_of xs))) lent;
    }

-- 11: "lent table too short", "bytes needed"
abbrev pub without_room : List ℕ → List Tagged → Result
without_room lent xs = record { answer = Refused NoRoom (length (table_of (file_of xs))); bytes = lent }

-- a refused load leaves the lent bytes as they are
abbrev pub by_verdict : List ℕ → Verdict → Result
by_verdict lent (refuse n p) = record { answer = Refused n p; bytes = lent }
by_verdict lent (accept xs) = cond (leb (length (table_of (file_of xs))) (length lent)) (written lent xs) (without_room lent xs)

-- the load of a text into lent bytes
unfoldable pub load : List ℕ → List ℕ → Result
load lent s = by_verdict lent (verdict s)
