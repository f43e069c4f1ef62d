use Rattle.std.proofs.Common.{List, ℕ, eqb, ◌≤◌, ◌+◌, length, refl, sym, ◌∙◌, arith, rules, tests}
use Rattle.std.proofs.iter.Serving.{serving}
use Rattle.std.proofs.lemmas.Iterator.{YieldsList-from_range}
use Rattle.std.proofs.lemmas.Iterator.Search.{find_from_yields_List}
use Rattle.spec_file.specs.Limit.{access_groups, inputs}
use Rattle.spec_table.specs.View.{view}
use Rattle.spec_table.specs.Policy.{row}
use Rattle.spec_table.specs.Check.{letter_field, inputs_run}
use Rattle.spec_table.proofs.laws.Standing.{stands, inputs_within}
use Rattle.table_read.specs.laws.Search.{same_option, run_found}
use Rattle.table_find.proofs.first_input.Goals as goal

pub find-requires-clause-callable : goal.find-requires-clause-callable
find-requires-clause-callable c =
    let l : c.field-start.result + c.field-n.result ≤ length ((view c.args.table.now).records inputs) = omega (arith, inputs_within (view c.args.table.now) (stands c.args.table.now c.requires.table).1 c.args.group c.requires.inside) in
    grind serving

pub returns : goal.returns
returns c =
    let b = c.args.table.now in
    let w = row (view b) access_groups c.args.group in
    run_found (λ (w : List ℕ). eqb (letter_field w) c.args.letter) ((view b).records inputs) (inputs_run w) c.field-start.ensures.is c.field-n.ensures.is
    (inputs_within (view b) (stands b c.requires.table).1 c.args.group c.requires.inside)
    (sym (same_option c.find.result)
    ∙ find_from_yields_List (λ i. eqb (letter_field (row (view b) inputs i)) c.args.letter) _ _ c.find.result c.find.ensures.ran (YieldsList-from_range c.field-start.result (c.field-start.result + c.field-n.result) _ refl refl) (λ x b q k. search (rules, tests)))
