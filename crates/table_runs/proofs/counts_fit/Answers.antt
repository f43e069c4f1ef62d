use Rattle.std.proofs.Common.{sym, ◌∙◌, refl, rules, tests}
use Rattle.std.proofs.lemmas.Iterator.{YieldsList-from_slice}
use Rattle.std.proofs.lemmas.Iterator.Search.{all_from_yields_List}
use Rattle.table_fields.specs.declared.TheConstants.{SECTIONS}
use Rattle.table_fields.specs.Field.{section}
use Rattle.table_runs.specs.laws.Sections.{few, few_is, counts_are}
use Rattle.table_runs.proofs.counts_fit.Goals as goal

pub returns-then-all : goal.returns-then-all
returns-then-all c =
    let e = all_from_yields_List (λ s. few c.args.b.now (section s)) _ _ _ c.all.ensures.ran (YieldsList-from_slice SECTIONS (cc)) (λ x b q k. search (rules, tests, few_is)) in
    rw c.if-all.true at (counts_are c.args.b.now c.requires e c.strings_count.ensures.is)

pub returns-else-all : goal.returns-else-all
returns-else-all c =
    let e = all_from_yields_List (λ s. few c.args.b.now (section s)) _ _ _ c.all.ensures.ran (YieldsList-from_slice SECTIONS (cc)) (λ x b q k. search (rules, tests, few_is)) in
    c.if-all.false ∙ rw c.if-all.false at (counts_are c.args.b.now c.requires e refl)
