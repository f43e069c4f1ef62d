-- What the crate answers.
use Rattle.std.specs.Prelude.{Bool, cond, List, ℕ, Float, Option as Maybe, Some, None}
use Rattle.std.proofs.Math.Option.{Option, none, some}
use Rattle.spec_calc.specs.Expression.{Tree}
use Rattle.spec_calc.specs.Value.{letters, lowest, near_one}
use Rattle.spec_rule.specs.declared.Outcome.{Outcome}
use Rattle.spec_rule.specs.declared.Outcome.TheVariants as outcomes
use Rattle.calc_value.specs.Parse.{value_with}
use Rattle.calc_letters.specs.Letters.{given_letter}

-- what a calculation comes to, by the lowest letter that is not good, if one is, and by whether its value counts as true
abbrev pub outcome_by : Option ℕ → Bool → Outcome
outcome_by (some i) near = outcomes.Stopped i
outcome_by none near = cond near outcomes.True outcomes.False

-- of the letters' values and of which are good
abbrev pub outcome_with : List Float → List Bool → Option Tree → Outcome
outcome_with values goods none = outcomes.False
outcome_with values goods (some t) = outcome_by (lowest (given_letter goods) (letters t)) (near_one (value_with values t))

abbrev pub near_computed : Maybe Float → Outcome
near_computed None = outcomes.False
near_computed (Some v) = cond (near_one v) outcomes.True outcomes.False
