use Rattle.std.proofs.Common.{refl, sym, ◌∙◌, rules, tests}
use Rattle.std.proofs.lemmas.Iterator.{YieldsList-from_range}
use Rattle.std.proofs.lemmas.Iterator.Search.{find_from_yields_List}
use Rattle.spec_lists.specs.Text.{same}
use Rattle.spec_file.specs.Limit.{access_groups}
use Rattle.spec_table.specs.View.{view}
use Rattle.spec_table.specs.Policy.{name, row}
use Rattle.table_read.specs.laws.Search.{same_option, named_first}
use Rattle.table_find.proofs.first_named.Goals as goal

pub returns : goal.returns
returns c =
    let b = c.args.table.now in
    let g = c.args.group.now in
    sym (same_option c.find.result)
    ∙ find_from_yields_List (λ i. same (name (view b) access_groups (row (view b) access_groups i)) g) _ _ c.find.result c.find.ensures.ran (YieldsList-from_range 0 c.count-n.result _ refl refl) (λ x b q k. search (rules, tests))
    ∙ named_first b g c.count-n.ensures
