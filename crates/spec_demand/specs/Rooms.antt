-- A register whose table stands now in one room and now in another, as a gateway with two buffers keeps it. The papers speak of one lent table
-- (docs/DECISIONS.md).
use Rattle.std.specs.Prelude.{◌≡◌, false, List, [], ◌∷◌, ◌++◌, ℕ, ◌≤◌, Float, length}
use Rattle.std.proofs.Math.Option.{Option, none, some}
use Rattle.spec_calc.specs.declared.Reading.{Reading}
use Rattle.spec_calc.specs.Readings.{GoneBad}
use Rattle.spec_rule.specs.declared.Access.{Access}
use Rattle.spec_rule.specs.Question.{reading_instead}
use Rattle.spec_rule.specs.Rule.{rank}
use Rattle.spec_grammar.specs.Sentence.{Tagged}
use Rattle.spec_file.specs.Contents.{file_of}
use Rattle.spec_file.specs.Acceptance.{Acceptable}
use Rattle.spec_table.specs.Table.{Table}
use Rattle.spec_table.specs.Written.{table_of}
use Rattle.spec_load.specs.Load.{is_accepted, load}
use Rattle.spec_edition.specs.Edition.{Edition, Later, SaysNo}
use Rattle.spec_register.specs.Register.{Client, Register, client_at}
use Rattle.spec_register.specs.Right.{question_now}
use Rattle.spec_register.specs.Calls.{Call, load_again, after}
use Rattle.spec_places.specs.Storage.{Lent, lent, places_bytes, all_readings, zeroed, register_in, right_in}
use Rattle.spec_places.specs.Calls.{left}

-- a file that a load accepts, given room
pub record GoodFile : Type 0 where
  pub text : List ℕ
  pub says : List Tagged
  pub acceptable : Acceptable text says

abbrev pub its_table : GoodFile → List ℕ
its_table f = table_of (file_of f.says)

-- bytes that stand for the table in force: before the first accepted load any that are no table, then the file's table, whatever stands behind it
abbrev pub InForce : Option GoodFile → List ℕ → Type 0
InForce none b = Table b → ⊥
InForce (some f) b = (rest : List ℕ) × (b ≡ its_table f ++ rest)

-- a call, and what it is lent for the table
pub record Turn : Type 0 where
  pub bytes : List ℕ
  pub call : Call

-- what is in force before some turns, the turns, what is in force after them: a load is lent any room, every other call the table in force
pub data LentInForce : Option GoodFile → List Turn → Option GoodFile → Type 0 where
  no_more : {o : Option GoodFile} → LentInForce o [] o
  other :
      {o now : Option GoodFile} {b : List ℕ} {c : Call} {ts : List Turn} → ((text : List ℕ) → c ≡ load_again text → ⊥) → InForce o b
      → LentInForce o ts now → LentInForce o (record { bytes = b; call = c } ∷ ts) now
  accepted :
      {o now : Option GoodFile} {room : List ℕ} {ts : List Turn} (f : GoodFile) → length (its_table f) ≤ length room
      → LentInForce (some f) ts now → LentInForce o (record { bytes = room; call = load_again f.text } ∷ ts) now
  refused :
      {o now : Option GoodFile} {room text : List ℕ} {ts : List Turn} → is_accepted (load room text).answer ≡ false
      → LentInForce o ts now → LentInForce o (record { bytes = room; call = load_again text } ∷ ts) now

-- what a turn makes of a register, and of its storage: what the call makes of it over these bytes
abbrev pub register_after : Register → List Turn → Register
register_after r [] = r
register_after r (t ∷ ts) = register_after (after (record { table = t.bytes; register = r }) t.call).register ts

abbrev pub over : List ℕ → Lent → Lent
over b s = lent b s.places s.states s.values

abbrev pub left_by_turns : Lent → List Turn → Lent
left_by_turns s [] = s
left_by_turns s (t ∷ ts) = left_by_turns (left (over t.bytes s) t.call) ts

-- demand 3 for each standing client of such a gateway, by the file in force
abbrev pub NeverMoreInRooms : Type 0
NeverMoreInRooms =
    (n m : ℕ) (v : List Float) → places_bytes ≤ n → all_readings ≤ m → all_readings ≤ length v
    → (turns : List Turn) (f : GoodFile) → LentInForce none turns (some f)
    → (b : List ℕ) → InForce (some f) b
    → let now = over b (left_by_turns (zeroed [] n m v) turns) in
    (p : ℕ) (c : Client) → client_at (register_in now) p ≡ some c
    → let q = question_now b (register_in now) c in
    (e : Edition) (actual : List Reading) (later : Access) → Later e f.says (reading_instead q actual) later
    →
    (GoneBad actual q.readings → rank (right_in now.places p).access ≤ rank later)
    × (actual ≡ q.readings → SaysNo e q f.says → (right_in now.places p).access ≡ later)
