use Rattle.std.proofs.Common.{◌+◌, drop, List, ℕ, refl, ◌∙◌, rules, tests}
use Rattle.std.proofs.lemmas.Iterator.{YieldsList-from_range}
use Rattle.std.proofs.lemmas.Iterator.Search.{any_from_yields_List}
use Rattle.table_read.specs.Stored.{section}
use Rattle.spec_lists.specs.Select.{any}
use Rattle.spec_lists.specs.Text.{same}
use Rattle.text_names.specs.Names.{names, name_at}
use Rattle.text_names.specs.laws.Names.{names_again}
use Rattle.text_names.proofs.name_repeated.Goals as goal

pub returns : goal.returns
returns c =
    let a = c.args in
    any_from_yields_List (λ i. any (λ (x : List ℕ). same x (name_at a.table.now (section a.s) i)) (drop (i + 1) (names a.table.now (section a.s)))) _ _ _ c.any.ensures.ran (YieldsList-from_range 0 c.count-n.result _ refl refl) (λ x b q k. search (rules, tests))
    ∙ names_again a.table.now (section a.s) c.count-n.ensures
