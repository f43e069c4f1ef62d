-- What the rules of an access group give.
use Rattle.std.specs.Prelude.{◌≡◌, List, ℕ}
use Rattle.spec_calc.specs.declared.Reading.{Reading}
use Rattle.spec_rule.specs.declared.Decision.{Decision}
use Rattle.spec_rule.specs.Rule.{Rule}
use Rattle.spec_rule.specs.Decision.{decision_by}
use Rattle.spec_file.specs.Limit.{access_groups}
use Rattle.spec_table.specs.View.{view}
use Rattle.spec_table.specs.Policy.{rules_of, row}
use Rattle.calc_inputs.specs.declared.Inputs.{Inputs}
use Rattle.ask_rule.specs.declared.Client.{Client}
use Rattle.ask_rule.specs.Rules.{asked_by, InputsAre}

-- the rules of the i-th access group
abbrev pub group_rules : List ℕ → ℕ → List Rule
group_rules b i = rules_of (view b) (row (view b) access_groups i)

-- what they give every question of a client whose readings have these inputs
abbrev pub ByGroup : List ℕ → ℕ → Client → Inputs → Decision → Type 0
ByGroup b i c inputs r = (rs : List Reading) → InputsAre inputs rs → r ≡ decision_by (asked_by c rs) (group_rules b i)
