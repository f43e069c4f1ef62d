-- The kept bytes and what the calculations come to give what the rules give; and a walk over them, rule by rule.
use Rattle.std.specs.Prelude.{◌≡◌, refl, Bool, true, false, cond, List, [], ◌∷◌, ℕ, zero, suc, ◌≤◌, length, take}
use Rattle.std.proofs.Common.{sym, ap, ap₂, ◌∙◌, arith, le-leb}
use Rattle.std.proofs.Math.Option.{Option}
use Rattle.std.proofs.Math.Seq.{take-nil}
use Rattle.spec_calc.specs.declared.Reading.{Reading}
use Rattle.spec_rule.specs.declared.Outcome.{Outcome}
use Rattle.spec_rule.specs.declared.Outcome.TheVariants as outcomes
use Rattle.spec_rule.specs.declared.Verdict.{Verdict}
use Rattle.spec_rule.specs.Question.{Question}
use Rattle.spec_rule.specs.Rule.{Rule, stands, outcome}
use Rattle.spec_rule.specs.Decision.{granted, decision_by}
use Rattle.spec_rule.specs.Verdict.{nothing_given, by_outcome, then, verdict_by, normal, settled}
use Rattle.spec_rule.specs.Kept.{bit, stand_bits, outcome_byte, byte_outcome, outcome_bytes, says_stands, by_kept, kept_verdict, kept_decision}
use Rattle.spec_rule.proofs.laws.Decision.{verdict_first, decision_settled, turned}
use Rattle.spec_rule.proofs.laws.Stopped.{stopped_small}

pub bit_says : (b : Bool) → says_stands (bit b) ≡ b
bit_says true = refl
bit_says false = refl

-- what a calculation comes to is read again from its byte: a letter that stops it is one of A to U
byte_again : (o : Outcome) → ((i : ℕ) → o ≡ outcomes.Stopped i → i ≤ 20) → byte_outcome (outcome_byte o) ≡ o
byte_again outcomes.True k = refl
byte_again outcomes.False k = refl
byte_again (outcomes.Stopped i) k = let z = le-leb i 20 (k i refl) in rw (z, z)

outcome_again : (rs : List Reading) (o : Option (List ℕ)) → byte_outcome (outcome_byte (outcome rs o)) ≡ outcome rs o
outcome_again rs o = byte_again (outcome rs o) (stopped_small rs o)

-- which rules stand and what their calculations come to is all that a decision needs
kept_verdict_is : (q : Question) (rules : List Rule) → kept_verdict (stand_bits q rules) (outcome_bytes q.readings rules) rules ≡ verdict_by q rules
kept_verdict_is q [] = refl
kept_verdict_is q (r ∷ rs) =
    ap₂
    then
    (ap₂ (λ (b : Bool) (x : Outcome). cond b (by_outcome x (granted r)) nothing_given) (bit_says (stands q r)) (outcome_again q.readings r.calculation))
    (kept_verdict_is q rs)
    ∙ sym (verdict_first q r rs)

pub kept_is : (q : Question) (rules : List Rule) → kept_decision (stand_bits q rules) (outcome_bytes q.readings rules) rules ≡ decision_by q rules
kept_is q rules = ap settled (kept_verdict_is q rules) ∙ sym (decision_settled q rules)

-- bytes and outcomes behind those of the last rule do not count
bytes_enough : (n : ℕ) (ks : List ℕ) (os : List ℕ) (rs : List Rule) → length rs ≤ n → kept_verdict (take n ks) os rs ≡ kept_verdict ks os rs
bytes_enough n [] os rs l = ap (λ (x : List ℕ). kept_verdict x os rs) (take-nil n)
bytes_enough zero (k ∷ ks) [] rs l = refl
bytes_enough zero (k ∷ ks) (o ∷ os) [] l = refl
bytes_enough zero (k ∷ ks) (o ∷ os) (r ∷ rs) l = absurd (omega arith)
bytes_enough (suc n) (k ∷ ks) [] rs l = refl
bytes_enough (suc n) (k ∷ ks) (o ∷ os) [] l = refl
bytes_enough (suc n) (k ∷ ks) (o ∷ os) (r ∷ rs) l = ap (then (by_kept k o r)) (bytes_enough n ks os rs (omega arith))

few_enough : (n : ℕ) (ks : List ℕ) (os : List ℕ) (rs : List Rule) → length rs ≤ n → kept_verdict ks (take n os) rs ≡ kept_verdict ks os rs
few_enough n ks [] rs l = ap (λ (x : List ℕ). kept_verdict ks x rs) (take-nil n)
few_enough n [] (o ∷ os) rs l = refl
few_enough zero (k ∷ ks) (o ∷ os) [] l = refl
few_enough zero (k ∷ ks) (o ∷ os) (r ∷ rs) l = absurd (omega arith)
few_enough (suc n) (k ∷ ks) (o ∷ os) [] l = refl
few_enough (suc n) (k ∷ ks) (o ∷ os) (r ∷ rs) l = ap (then (by_kept k o r)) (few_enough n ks os rs (omega arith))

module _ (n : ℕ) (ks : List ℕ) (os : List ℕ) (rs : List Rule) (l : length rs ≤ n) where
  pub kept_bytes_enough : kept_decision (take n ks) os rs ≡ kept_decision ks os rs
  kept_bytes_enough = ap settled (bytes_enough n ks os rs l)

  pub outcome_bytes_enough : kept_decision ks (take n os) rs ≡ kept_decision ks os rs
  outcome_bytes_enough = ap settled (few_enough n ks os rs l)

-- ---- rule by rule: v is what the rules before give

module _ {ks ls : List ℕ} {os us : List ℕ} {rs ss : List Rule} {k : ℕ} {o : ℕ} {r : Rule} where
  pub kept_turn :
      (v : Verdict) {w : Verdict} → ks ≡ k ∷ ls → os ≡ o ∷ us → rs ≡ r ∷ ss → w ≡ normal (then v (by_kept k o r))
      → settled (then v (kept_verdict ks os rs)) ≡ settled (then w (kept_verdict ls us ss))
  kept_turn v e f g h = rw (e, f, g) (turned v (by_kept k o r) (kept_verdict ls us ss) h)
