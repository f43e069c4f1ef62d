use Rattle.std.proofs.Common.{[], refl, ◌∙◌, arith, rules, tests}
use Rattle.std.proofs.lemmas.Iterator.{YieldsList-from_range}
use Rattle.std.proofs.lemmas.Iterator.Search.{any_from_yields_List}
use Rattle.spec_file.specs.Limit.{access_groups}
use Rattle.spec_table.specs.View.{view}
use Rattle.spec_text.specs.Faults.{asg_faulty}
use Rattle.spec_export.specs.Says.{asg_in, file_in}
use Rattle.text_names.specs.laws.Numbered.{any_numbered}
use Rattle.text_judge.specs.Judged.{asg_at}
use Rattle.text_judge.proofs.groups_faulty.Goals as goal

pub returns : goal.returns
returns c =
    let t = view c.args.table.now in
    any_from_yields_List (λ i. asg_faulty (file_in t) (asg_at c.args.table.now i)) _ _ _ c.any.ensures.ran (YieldsList-from_range 0 c.count-n.result _ refl refl) (λ x b q k. search (rules, tests))
    ∙ any_numbered (asg_in t) (t.records access_groups) [] (asg_faulty (file_in t)) 0 _ (omega (arith, c.count-n.ensures))
