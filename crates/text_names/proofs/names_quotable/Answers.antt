use Rattle.std.proofs.Common.{refl, ◌∙◌, rules, tests}
use Rattle.std.proofs.lemmas.Iterator.{YieldsList-from_range}
use Rattle.std.proofs.lemmas.Iterator.Search.{all_from_yields_List}
use Rattle.table_read.specs.Stored.{section}
use Rattle.spec_text.specs.Faults.{quotable}
use Rattle.text_names.specs.Names.{name_at}
use Rattle.text_names.specs.laws.Names.{names_all}
use Rattle.text_names.proofs.names_quotable.Goals as goal

pub returns : goal.returns
returns c =
    let a = c.args in
    all_from_yields_List (λ i. quotable (name_at a.table.now (section a.s) i)) _ _ _ c.all.ensures.ran (YieldsList-from_range 0 c.count-n.result _ refl refl) (λ x b q k. search (rules, tests))
    ∙ names_all a.table.now (section a.s) quotable c.count-n.ensures
