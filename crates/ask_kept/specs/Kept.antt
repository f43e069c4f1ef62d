-- An access group's decision in two parts, as the functions of a register make them.
use Rattle.std.specs.Prelude.{◌≡◌, List, [], ℕ, length}
use Rattle.std.proofs.lemmas.List.Edits.{sets}
use Rattle.spec_lists.specs.Runs.{part}
use Rattle.spec_calc.specs.declared.Reading.{Reading}
use Rattle.spec_rule.specs.declared.Decision.{Decision}
use Rattle.spec_rule.specs.declared.Verdict.{Verdict}
use Rattle.spec_rule.specs.Verdict.{then, normal}
use Rattle.spec_rule.specs.Kept.{stand_bits, outcome_bytes, by_kept, kept_decision}
use Rattle.calc_inputs.specs.declared.Inputs.{Inputs}
use Rattle.ask_rule.specs.Rules.{rule_at, question, InputsAre}
use Rattle.ask_checked.specs.Group.{group_rules}

-- the bytes that keep which rules of the i-th group stand for a client
abbrev pub client_bits : List ℕ → ℕ → List ℕ → List ℕ → ℕ → List ℕ
client_bits b i user host level = stand_bits (question user host [] level []) (group_rules b i)

-- what the i-th group's calculations come to stands at the start of a list, of every readings that have these inputs; what stands behind them stays
abbrev pub Calculated : List ℕ → ℕ → Inputs → List ℕ → List ℕ → Type 0
Calculated b i inputs before after = (rs : List Reading) → InputsAre inputs rs → after ≡ sets before 0 (outcome_bytes rs (group_rules b i))

-- what the rules of the i-th group give by the kept bytes that stand from a place on, and by what their calculations come to
abbrev pub decision_kept : List ℕ → ℕ → List ℕ → ℕ → List ℕ → Decision
decision_kept b i kept at os = kept_decision (part (record { first = at; count = length (group_rules b i) }) kept) os (group_rules b i)

-- what the i-th rule gives behind others that give v, in which what its access has passed is forgotten
abbrev pub WithKept : List ℕ → ℕ → ℕ → ℕ → Verdict → Verdict → Type 0
WithKept b i k o v r = normal v ≡ v → r ≡ normal (then v (by_kept k o (rule_at b i)))
