-- A decision in two parts: which rules stand for a client is kept as bytes; what their calculations come to changes with the readings.
use Rattle.std.specs.Prelude.{Bool, cond, not, List, [], ◌∷◌, map, ℕ, zero, suc, eqb, leb}
use Rattle.spec_calc.specs.declared.Reading.{Reading}
use Rattle.spec_rule.specs.declared.Outcome.{Outcome}
use Rattle.spec_rule.specs.declared.Outcome.TheVariants as outcomes
use Rattle.spec_rule.specs.declared.Decision.{Decision}
use Rattle.spec_rule.specs.declared.Verdict.{Verdict}
use Rattle.spec_rule.specs.Question.{Question}
use Rattle.spec_rule.specs.Rule.{Rule, stands, outcome}
use Rattle.spec_rule.specs.Decision.{granted}
use Rattle.spec_rule.specs.Verdict.{nothing_given, by_outcome, then, settled}

-- the byte that keeps whether a rule stands
abbrev pub bit : Bool → ℕ
bit b = cond b 1 0

-- the bytes that keep which rules stand
abbrev pub stand_bits : Question → List Rule → List ℕ
stand_bits q rs = map (λ r. bit (stands q r)) rs

-- the byte that keeps what a calculation comes to
abbrev pub outcome_byte : Outcome → ℕ
outcome_byte outcomes.False = 0
outcome_byte outcomes.True = 1
outcome_byte (outcomes.Stopped i) = cond (leb i 20) (suc (suc i)) 0

abbrev pub byte_outcome : ℕ → Outcome
byte_outcome zero = outcomes.False
byte_outcome (suc zero) = outcomes.True
byte_outcome (suc (suc i)) = cond (leb i 20) (outcomes.Stopped i) outcomes.False

-- the bytes that keep what their calculations come to, of some readings
abbrev pub outcome_bytes : List Reading → List Rule → List ℕ
outcome_bytes readings rs = map (λ r. outcome_byte (outcome readings r.calculation)) rs

-- a kept byte says that its rule stands
abbrev pub says_stands : ℕ → Bool
says_stands k = not (eqb k 0)

-- what a rule gives by these two bytes
abbrev pub by_kept : ℕ → ℕ → Rule → Verdict
by_kept k o r = cond (says_stands k) (by_outcome (byte_outcome o) (granted r)) nothing_given

-- what rules give by their bytes
abbrev pub kept_verdict : List ℕ → List ℕ → List Rule → Verdict
kept_verdict [] os rs = nothing_given
kept_verdict (k ∷ ks) [] rs = nothing_given
kept_verdict (k ∷ ks) (o ∷ os) [] = nothing_given
kept_verdict (k ∷ ks) (o ∷ os) (r ∷ rs) = then (by_kept k o r) (kept_verdict ks os rs)

abbrev pub kept_decision : List ℕ → List ℕ → List Rule → Decision
kept_decision ks os rs = settled (kept_verdict ks os rs)
