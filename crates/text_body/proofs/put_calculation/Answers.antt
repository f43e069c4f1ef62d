use mathlib.Core.Path.{sym}
use Rattle.spec_file.specs.Limit.{rules}
use Rattle.spec_table.specs.Policy.{row}
use Rattle.spec_table.specs.View.{view}
use Rattle.text_marks.specs.laws.Left.{wrote_both, wrote_as}
use Rattle.text_body.specs.laws.Lines.{calculation_full}
use Rattle.text_body.proofs.put_calculation.Goals as goal

pub returns-then-first-n-ne0 : goal.returns-then-first-n-ne0
returns-then-first-n-ne0 c = let a = c.args in wrote_as (wrote_both (rw c.name_of.ensures at c.put_called.ensures) c.put.ensures) (sym (calculation_full (view a.table.now) (row (view a.table.now) rules a.rule) c.field-first.ensures.is c.field-n.ensures.is c.if-first-n-ne0.true))
