-- A script of calls, in numbers, so that a program can lend one: any calls, any number of them, texts of any length.
use Rattle.std.specs.Prelude.{List, [], ◌∷◌, ℕ, zero, suc, ◌+◌, ◌*◌, ◌/◌, length, get_or, Float}
use Rattle.spec_rule.specs.Question.{lent_question}
use Rattle.spec_calc.specs.declared.Reading.{Reading}
use Rattle.spec_calc.specs.States.{readings}
use Rattle.load_tokens.specs.Arrays.{between}
use Rattle.spec_demand.specs.Calls.{Call, load_text, list_warnings, check_table, ask, ask_checked, find_input, find_input_checked, look_up_name, find_group}
use Rattle.spec_demand.specs.Calls.{export_text, allow, calculate, hold}

-- The words are 16 for each call:
--   0        what is called: see call_of
--   1 to 6   three texts, each from where to where it stands in the pool
--   7        how many warnings are skipped; the number of a group
--   8        where the 21 readings begin in states and values
--   9 to 12  two more texts: a question's roles, one behind the other, and the length of each
-- The others say nothing. Each call has a level or letter of its own. What stands beyond an end is no byte, the number 0; of readings see calc_readings/specs.
pub record Script : Type 0 where
  pub words : List ℕ
  pub pool : List ℕ
  pub levels : List ℕ
  pub states : List ℕ
  pub values : List Float
  -- how many bytes are lent for a text
  pub room : ℕ

abbrev pub script_of : List ℕ → List ℕ → List ℕ → List ℕ → List Float → ℕ → Script
script_of ws p ls ss vs room = record { words = ws; pool = p; levels = ls; states = ss; values = vs; room = room }

-- the calls from number 3 on, of three texts, roles and their lengths, a group's number, a level or letter, and readings: none of them writes
abbrev pub reading_calls : List ℕ → List ℕ → List ℕ → List ℕ → List ℕ → ℕ → ℕ → List Reading → List Call
reading_calls a b c roles lengths number n rs =
    check_table
    ∷ ask (lent_question a b c roles lengths n rs)
    ∷ ask_checked (lent_question a b c roles lengths n rs)
    ∷ find_input a n
    ∷ find_input_checked a n
    ∷ look_up_name a n
    ∷ find_group number
    ∷ allow a
    ∷ calculate a rs
    ∷ []

-- what a number calls. Those that write come first: 0 a load, 1 a list of warnings behind so many, 2 an export; then the others, 3 to 11; 12 and more a
-- calculation's truth
abbrev pub call_of : ℕ → List ℕ → List ℕ → List ℕ → List ℕ → List ℕ → ℕ → ℕ → List Reading → ℕ → Call
call_of what a b c roles lengths skip n rs room =
    get_or (load_text a ∷ list_warnings a skip ∷ export_text room ∷ reading_calls a b c roles lengths skip n rs) what (hold a rs)

-- the j-th word of the i-th call
abbrev pub word : List ℕ → ℕ → ℕ → ℕ
word words i j = get_or words (i * 16 + j) 0

-- the text that two words give, the j-th and the next
abbrev pub text_at : List ℕ → List ℕ → ℕ → ℕ → List ℕ
text_at words pool i j = between pool (word words i j) (word words i (j + 1))

-- the i-th call of a script
abbrev pub call_at : Script → ℕ → Call
call_at s i =
    call_of
    (word s.words i 0)
    (text_at s.words s.pool i 1)
    (text_at s.words s.pool i 3)
    (text_at s.words s.pool i 5)
    (text_at s.words s.pool i 9)
    (text_at s.words s.pool i 11)
    (word s.words i 7)
    (get_or s.levels i 0)
    (readings s.states s.values (word s.words i 8))
    s.room

-- n calls from the i-th on
unfoldable pub calls_from : Script → ℕ → ℕ → List Call
calls_from s i zero = []
calls_from s i (suc n) = call_at s i ∷ calls_from s (i + 1) n

-- the calls of a script: one for each 16 words
abbrev pub calls : Script → List Call
calls s = calls_from s 0 (length s.words / 16)
