use mathlib.Core.Path.{sym}
use Rattle.std.proofs.Common.{◌<◌, rules, tests}
use Rattle.spec_table.specs.View.{view}
use Rattle.text_marks.specs.laws.Left.{wrote_both, wrote_as}
use Rattle.text_body.specs.laws.Lines.{references_full}
use Rattle.text_body.proofs.put_references.Goals as goal

pub returns-then-not-is_empty : goal.returns-then-not-is_empty
returns-then-not-is_empty c =
    let a = c.args in
    let z : a.records.start < a.records.end = search (rules, tests) in
    wrote_as (wrote_both c.put.ensures (wrote_both c.put-then-not-is_empty.ensures (wrote_both c.put_names.ensures c.put-then-not-is_empty-2.ensures))) (sym (references_full (view a.table.now) a.word.now a.records c.requires.0.inside z))
