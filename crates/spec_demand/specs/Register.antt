-- A gateway's register among the calls of the library, and demand 3 for its clients. 02, ticket 1: "Demand 3 is read for each standing client."
use Rattle.std.specs.Prelude.{◌≡◌, cond, List, ◌∷◌, ◌++◌, ℕ, ◌≤◌, Float, length}
use Rattle.std.proofs.Math.Option.{some}
use Rattle.spec_grammar.specs.Sentence.{Tagged}
use Rattle.spec_calc.specs.declared.Reading.{Reading}
use Rattle.spec_calc.specs.Readings.{GoneBad}
use Rattle.spec_rule.specs.declared.Access.{Access}
use Rattle.spec_rule.specs.Question.{reading_instead}
use Rattle.spec_rule.specs.Rule.{rank}
use Rattle.spec_file.specs.Acceptance.{TextReads}
use Rattle.spec_edition.specs.Edition.{Edition, Later, SaysNo}
use Rattle.spec_register.specs.Register.{Client, client_at}
use Rattle.spec_register.specs.Right.{question_now}
use Rattle.spec_register.specs.Calls.{Call, add, change, remove, set_reading, load_again, after, after_calls}
use Rattle.spec_register.specs.Sentences.{begun, NotRefused, EachDone, NoLoad}
use Rattle.spec_places.specs.Storage.{Lent, places_bytes, all_readings, zeroed, register_in, right_in}
use Rattle.spec_places.specs.Calls.{has_room, left_by_calls}
use Rattle.spec_demand.specs.Calls.{load_text, check_table, Call as TableCall}

-- A register's call as one of the calls on the table: its load is a load, unless the storage lent for the register is too short; any other reads the table, as
-- a check does. So demand 3 holds with a register's calls between, on this table or on others.
abbrev pub on_table : Lent → Call → TableCall
on_table s (add c) = check_table
on_table s (change p c) = check_table
on_table s (remove p) = check_table
on_table s (set_reading n letter x) = check_table
on_table s (load_again text) = cond (has_room s) (load_text text) check_table

-- From text to the right that a gateway reads. From zeros on, calls are made, then a text is loaded, then come calls, and none is an accepted load. Of each
-- client that stands then, whichever of the actual readings went bad in the register: the access of its right, as it is read from the storage, is never more
-- than any later edition's; and with the actual readings, where the edition says no to every unknown predicate, it is equal.
--
-- These are the register's calls. The library's others (a question, a look-up, a list of warnings, a refused plain load) write neither register nor table, so
-- they may come between anywhere; an accepted plain load into the table is somebody else's writing.
abbrev pub NeverMoreToClients : Type 0
NeverMoreToClients =
    (t : List ℕ) (n m : ℕ) (v : List Float) → places_bytes ≤ n → all_readings ≤ m → all_readings ≤ length v
    → (earlier : List Call) (s : List ℕ) → NotRefused (after_calls (begun t) earlier) (load_again s)
    → (xs : List Tagged) → TextReads s xs
    → (between : List Call) → EachDone NoLoad (after (after_calls (begun t) earlier) (load_again s)) between
    → let now = left_by_calls (zeroed t n m v) (earlier ++ (load_again s ∷ between)) in
    (p : ℕ) (c : Client) → client_at (register_in now) p ≡ some c
    → let q = question_now now.table (register_in now) c in
    (e : Edition) (actual : List Reading) (later : Access) → Later e xs (reading_instead q actual) later
    →
    (GoneBad actual q.readings → rank (right_in now.places p).access ≤ rank later)
    × (actual ≡ q.readings → SaysNo e q xs → (right_in now.places p).access ≡ later)
