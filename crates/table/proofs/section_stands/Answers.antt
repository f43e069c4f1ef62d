use Rattle.std.proofs.Common.{[], ◌≤◌, length, refl, ◌∙◌, arith, rules, tests}
use Rattle.std.proofs.iter.Serving.{serving}
use Rattle.std.proofs.lemmas.Iterator.{YieldsList-from_range}
use Rattle.std.proofs.lemmas.Iterator.Search.{all_from_yields_List}
use Rattle.spec_table.specs.View.{view}
use Rattle.spec_table.specs.Policy.{row}
use Rattle.spec_table.proofs.laws.Fields.{view_count}
use Rattle.table_fields.specs.Field.{section}
use Rattle.table_fields.specs.laws.Fields.{two_words}
use Rattle.table_runs.specs.laws.All.{all_numbered}
use Rattle.table_records.specs.Records.{record_stands}
use Rattle.table.proofs.section_stands.Goals as goal

pub all-requires-clause-callable : goal.all-requires-clause-callable
all-requires-clause-callable c =
    let l : c.section_count.result ≤ length ((view c.args.b.now).records (section c.args.s)) = omega (arith, c.section_count.ensures.is, view_count c.args.b.now (section c.args.s)) in
    let w = two_words (section c.args.s) in
    grind serving

pub returns : goal.returns
returns c =
    let a = c.args in
    let s = section a.s in
    all_from_yields_List (λ i. record_stands (view a.b.now) s (row (view a.b.now) s i)) _ _ c.all.result c.all.ensures.ran (YieldsList-from_range 0 c.section_count.result _ refl refl) (λ x b q k. search (rules, tests))
    ∙ all_numbered (record_stands (view a.b.now) s) [] ((view a.b.now).records s) 0 _ (omega (arith, c.section_count.ensures.is, view_count a.b.now s))
