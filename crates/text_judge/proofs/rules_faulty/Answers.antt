use Rattle.std.proofs.Common.{[], ◌-◌, refl, ap, map, ◌∙◌, arith, rules, tests}
use Rattle.std.proofs.lemmas.Iterator.{YieldsList-from_range, serves_from_Range}
use Rattle.std.proofs.lemmas.Iterator.Search.{any_from_yields_List}
use Rattle.spec_file.specs.Limit as limit
use Rattle.table_read.specs.Stored.{Stored}
use Rattle.spec_lists.specs.Select.{any}
use Rattle.spec_lists.specs.Runs.{Run, part}
use Rattle.spec_table.specs.Table.{rules_run}
use Rattle.spec_table.specs.View.{view}
use Rattle.spec_table.specs.Policy.{row}
use Rattle.spec_text.specs.Faults.{rule_faulty}
use Rattle.spec_export.specs.Says.{rule_text_in, file_in}
use Rattle.text_marks.specs.laws.Names.{run_is}
use Rattle.text_names.specs.laws.Numbered.{any_in_run}
use Rattle.text_judge.specs.laws.Judged.{rules_inside, rule_stored}
use Rattle.text_judge.proofs.rules_faulty.Goals as goal

pub any-requires-clause-callable : goal.any-requires-clause-callable
any-requires-clause-callable c = serves_from_Range (λ x q k. search rules) (λ x l h. let e : Stored c.args.table.now limit.rules x = rule_stored c.args.table.now c.args.group c.requires c.run.ensures.end x h in search rules)

pub returns : goal.returns
returns c = λ ls h.
    let t = view c.args.table.now in
    let r = c.run.result in
    any_from_yields_List (λ i. rule_faulty (file_in t) ls (rule_text_in t (row t limit.rules i))) _ _ _ c.any.ensures.ran (YieldsList-from_range r.start r.end _ refl refl) (λ x b q k. search (rules, tests))
    ∙ any_in_run (rule_text_in t) (t.records limit.rules) [] (rule_faulty (file_in t) ls) r.start (r.end - r.start) (λ z. omega (arith, rules_inside c.args.table.now c.args.group c.requires, c.run.ensures.end, z))
    ∙ ap (λ (v : Run). any (rule_faulty (file_in t) ls) (map (rule_text_in t) (part v (t.records limit.rules)))) (run_is {v = rules_run (row t limit.access_groups c.args.group)} c.run.ensures.start c.run.ensures.end)
