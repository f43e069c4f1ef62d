use Rattle.std.proofs.Common.{[], ◌-◌, refl, ◌∙◌, arith, rules, tests}
use Rattle.std.proofs.lemmas.Iterator.{YieldsList-from_range}
use Rattle.std.proofs.lemmas.Iterator.Search.{any_from_yields_List}
use Rattle.table_read.specs.Stored.{section}
use Rattle.spec_file.specs.Limit.{references}
use Rattle.spec_table.specs.View.{view}
use Rattle.spec_table.specs.Policy.{name, row}
use Rattle.spec_text.specs.Faults.{nowhere_defined}
use Rattle.text_names.specs.laws.Numbered.{any_in_run}
use Rattle.text_judge.specs.Judged.{groups_in}
use Rattle.text_judge.specs.laws.Judged.{undefined_is}
use Rattle.text_judge.proofs.some_undefined.Goals as goal

pub returns : goal.returns
returns c =
    let a = c.args in
    let t = view a.table.now in
    any_from_yields_List (λ i. nowhere_defined (groups_in a.table.now (section a.s)) (name t references (row t references i))) _ _ _ c.any.ensures.ran (YieldsList-from_range a.records.start a.records.end _ refl refl) (λ x b q k. rw (undefined_is a.table.now (section a.s) (name t references (row t references x))) (search (rules, tests)))
    ∙ any_in_run (name t references) (t.records references) [] (nowhere_defined (groups_in a.table.now (section a.s))) a.records.start (a.records.end - a.records.start) (λ z. omega (arith, c.requires.1, z))
