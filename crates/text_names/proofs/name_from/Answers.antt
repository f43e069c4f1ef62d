use Rattle.std.proofs.Common.{refl, ◌∙◌, rules, tests}
use Rattle.std.proofs.lemmas.Iterator.{YieldsList-from_range}
use Rattle.std.proofs.lemmas.Iterator.Search.{any_from_yields_List}
use Rattle.table_read.specs.Stored.{section}
use Rattle.spec_lists.specs.Text.{same}
use Rattle.text_names.specs.Names.{name_at}
use Rattle.text_names.specs.laws.Names.{names_any}
use Rattle.text_names.proofs.name_from.Goals as goal

pub returns : goal.returns
returns c =
    let a = c.args in
    any_from_yields_List (λ i. same (name_at a.table.now (section a.s) i) a.name.now) _ _ _ c.any.ensures.ran (YieldsList-from_range a.k c.count-n.result _ refl refl) (λ x b q k. search (rules, tests))
    ∙ names_any a.table.now (section a.s) (λ x. same x a.name.now) a.k c.count-n.ensures
