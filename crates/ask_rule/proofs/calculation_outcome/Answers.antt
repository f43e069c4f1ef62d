use Rattle.std.proofs.Common.{sym, ap, ◌∙◌, ℕ, List}
use Rattle.spec_lists.specs.Select.{missing}
use Rattle.spec_calc.specs.Reader.{tree_of}
use Rattle.spec_calc.specs.Value.{worth}
use Rattle.spec_rule.specs.Rule.{judged}
use Rattle.spec_file.specs.Limit.{rules}
use Rattle.spec_table.specs.View.{view}
use Rattle.spec_table.specs.Policy.{row}
use Rattle.spec_table.proofs.laws.Standing.{stands, calculation_there}
use Rattle.calc_truth.specs.laws.Answers.{outcome_is}
use Rattle.ask_rule.specs.laws.Calculation.{some_there, calculation_decides}
use Rattle.ask_rule.proofs.calculation_outcome.Goals as goal

pub outcome_with-requires : goal.outcome_with-requires
outcome_with-requires c =
    let b = c.args.table.now in
    let there = some_there (view b) (row (view b) rules c.args.rule) (λ e. c.if-run-eq0.false (c.run.ensures.end ∙ e)) in
    ap (λ (s : List ℕ). missing (tree_of s)) c.name_of-text.ensures
    ∙ calculation_there (view b) (stands b c.requires.table).1 c.args.rule c.requires.inside there

pub returns : goal.returns
returns c = λ rs h.
    let b = c.args.table.now in
    let i = c.args.inputs.now in
    outcome_is rs i.values i.good (tree_of c.name_of-text.result.now) h.values h.good c.outcome_with.ensures
    ∙ ap (λ (s : List ℕ). judged (worth rs (tree_of s))) c.name_of-text.ensures
    ∙ sym (calculation_decides (view b) (row (view b) rules c.args.rule) rs (λ e. c.if-run-eq0.false (c.run.ensures.end ∙ e)))
