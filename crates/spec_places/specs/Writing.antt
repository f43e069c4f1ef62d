-- What the calls write into a register's storage.
use Rattle.std.specs.Prelude.{cond, List, [], ◌∷◌, ℕ, zero, suc, ◌+◌, eqb, length, get_or, set}
use Rattle.std.proofs.Math.Option.{Option, none, some}
use Rattle.std.proofs.lemmas.List.Edits.{sets}
use Rattle.spec_lists.specs.Runs.{part}
use Rattle.spec_calc.specs.declared.Reading.{Reading}
use Rattle.spec_calc.specs.declared.Reading.TheVariants.{NeverHeard, Invalid, Value}
use Rattle.spec_rule.specs.Question.{Question, question_of}
use Rattle.spec_rule.specs.Rule.{Rule}
use Rattle.spec_rule.specs.Decision.{decision_by}
use Rattle.spec_rule.specs.Kept.{stand_bits, outcome_bytes, kept_decision}
use Rattle.spec_rule.specs.Number.{decision_number}
use Rattle.spec_file.specs.Limit.{access_groups}
use Rattle.spec_table.specs.View.{view}
use Rattle.spec_table.specs.Check.{is_table}
use Rattle.spec_table.specs.Policy.{rules_of, row}
use Rattle.spec_register.specs.Register.{Client, never_heard}
use Rattle.spec_decision.specs.Groups.{answering_number}
use Rattle.spec_places.specs.Storage.{at_place, client_bytes, kept_at, nothing_kept, client_in}

-- the rules of the i-th access group
abbrev pub rules_at : List ℕ → ℕ → List Rule
rules_at t i = rules_of (view t) (row (view t) access_groups i)

-- ---- what a place keeps of its client, from the readings of each group

abbrev pub asked : Client → List Reading → Question
asked c rs = question_of c.group c.user c.host c.level rs

abbrev pub kept_by : List ℕ → (ℕ → List Reading) → Client → Option ℕ → List ℕ
kept_by t rs c none = nothing_kept
kept_by t rs c (some i) =
    suc i ∷ decision_number (decision_by (asked c (rs i)) (rules_at t i)) ∷ stand_bits (asked c (rs i)) (rules_at t i)

abbrev pub kept : List ℕ → (ℕ → List Reading) → Client → List ℕ
kept t rs c = cond (is_table t) (kept_by t rs c (answering_number t c.group)) nothing_kept

-- a client written into a place
abbrev pub entered : List ℕ → (ℕ → List Reading) → List ℕ → ℕ → Client → List ℕ
entered t rs b p c = sets (sets b (at_place p) (client_bytes c)) (kept_at p) (kept t rs c)

-- a place made free
abbrev pub freed : List ℕ → ℕ → List ℕ
freed b p = sets (sets b (at_place p) (0 ∷ [])) (kept_at p) nothing_kept

-- ---- at each place, the last first

abbrev pub each : (List ℕ → ℕ → List ℕ) → ℕ → List ℕ → List ℕ
each f zero b = b
each f (suc p) b = each f p (f b p)

-- the right by what stands of the rules and by what their calculations come to now
abbrev pub kept_right : List Rule → List Reading → List ℕ → ℕ → ℕ
kept_right rules rs b p =
    decision_number
    (kept_decision (part (record { first = kept_at p + 2; count = length rules }) b) (outcome_bytes rs rules) rules)

-- a place that the i-th group answers for, with that group's readings
abbrev pub renewed : List ℕ → ℕ → List Reading → List ℕ → ℕ → List ℕ
renewed t i rs b p = cond (eqb (get_or b (kept_at p) 0) (suc i)) (set b (kept_at p + 1) (kept_right (rules_at t i) rs b p)) b

-- a place over another table, no reading heard
abbrev pub settled_client : List ℕ → List ℕ → ℕ → Option Client → List ℕ
settled_client t b p none = b
settled_client t b p (some c) = sets b (kept_at p) (kept t (λ i. never_heard) c)

abbrev pub settled : List ℕ → List ℕ → ℕ → List ℕ
settled t b p = settled_client t b p (client_in b p)

-- ---- a reading's state

abbrev pub state_of : Reading → ℕ
state_of NeverHeard = 0
state_of Invalid = 1
state_of (Value x) = 2
