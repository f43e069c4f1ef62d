-- One rule of a table and a question: what its calculation comes to, and what it gives.
use Rattle.std.specs.Prelude.{◌≡◌, List, [], map, ℕ}
use Rattle.spec_calc.specs.declared.Reading.{Reading}
use Rattle.spec_calc.specs.Value.{heard, good}
use Rattle.spec_rule.specs.declared.Outcome.{Outcome}
use Rattle.spec_rule.specs.declared.Verdict.{Verdict}
use Rattle.spec_rule.specs.Question.{Question, question_of, with_roles}
use Rattle.spec_rule.specs.Roles.{cut_roles}
use Rattle.spec_rule.specs.Rule.{Rule, outcome}
use Rattle.spec_rule.specs.Verdict.{by_rule, then, normal}
use Rattle.spec_file.specs.Limit.{rules}
use Rattle.spec_table.specs.View.{view}
use Rattle.spec_table.specs.Policy.{rule_of, row}
use Rattle.calc_inputs.specs.declared.Inputs.{Inputs}
use Rattle.ask_rule.specs.declared.Client.{Client}

-- the i-th rule of a table
abbrev pub rule_at : List ℕ → ℕ → Rule
rule_at b i = rule_of (view b) (row (view b) rules i)

-- a question as its rules see it: none of them asks for the group's name
abbrev pub question : List ℕ → List ℕ → List (List ℕ) → ℕ → List Reading → Question
question u h roles l rs = with_roles (question_of [] u h l rs) roles

-- a client's question, with some readings
abbrev pub asked_by : Client → List Reading → Question
asked_by c rs = question c.user.name.now c.host.now (cut_roles c.user.roles.pool.now c.user.roles.lengths.now) c.level rs

-- the inputs are those of some readings
pub record InputsAre (inputs : Inputs) (rs : List Reading) : Type 0 where
  pub values : inputs.values ≡ map heard rs
  pub good : inputs.good ≡ map good rs

-- ---- of every question whose readings have these inputs

-- what the calculation of the i-th rule comes to
abbrev pub Calculates : List ℕ → ℕ → Inputs → Outcome → Type 0
Calculates b i inputs r = (rs : List Reading) → InputsAre inputs rs → r ≡ outcome rs (rule_at b i).calculation

-- what the i-th rule gives behind others that give the verdict v, in which what its access has passed is forgotten
abbrev pub WithRule : List ℕ → ℕ → Client → Inputs → Verdict → Verdict → Type 0
WithRule b i c inputs v r =
    (rs : List Reading) → InputsAre inputs rs → normal v ≡ v → r ≡ normal (then v (by_rule (asked_by c rs) (rule_at b i)))
