use Rattle.std.proofs.Common.{◌≤◌, length, refl, ◌∙◌, arith, rules, tests}
use Rattle.std.proofs.iter.Serving.{serving}
use Rattle.std.proofs.lemmas.Iterator.{YieldsList-from_range}
use Rattle.std.proofs.lemmas.Iterator.Search.{all_from_yields_List}
use Rattle.spec_file.specs.Limit.{references}
use Rattle.spec_table.specs.View.{view}
use Rattle.spec_table.specs.Policy.{row}
use Rattle.spec_table.proofs.laws.Fields.{view_count}
use Rattle.table_fields.specs.Field.{section}
use Rattle.table_records.specs.Records.{number_stands}
use Rattle.table_records.specs.laws.Records.{numbers_are}
use Rattle.table_records.proofs.numbers_fit.Goals as goal

pub all-requires-clause-callable : goal.all-requires-clause-callable
all-requires-clause-callable c =
    let l : c.min-end.result ≤ length ((view c.args.b.now).records references) = omega (arith, c.min-end.ensures, c.section_count.ensures.is, view_count c.args.b.now references) in
    grind serving

pub returns : goal.returns
returns c =
    let a = c.args in
    all_from_yields_List (λ i. number_stands c.section_count-groups.result (row (view a.b.now) references i)) _ _ _ c.all.ensures.ran (YieldsList-from_range a.first c.min-end.result _ refl refl) (λ x b q k. search (rules, tests))
    ∙ numbers_are a.b.now (section a.of) a.first a.length c.section_count.ensures.is c.section_count-groups.ensures.is (omega (arith, c.min-end.ensures))
