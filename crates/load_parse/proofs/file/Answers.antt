use Rattle.std.specs.Prelude.{is_some}
use Rattle.std.proofs.Common.{sym, ap, ◌∙◌}
use Rattle.load_parse.specs.laws.Answers.{items_begin, items_more, first_stops, later_stops, all_end}
use Rattle.load_parse.proofs.file.Goals as goal

pub returns-in_err-item : goal.returns-in_err-item
returns-in_err-item c = first_stops c.in_err-item.ensures c.from_residual.ensures.1

pub loop-p-init : goal.loop-p-init
loop-p-init c = items_begin _

pub loop-p-preserved : goal.loop-p-preserved
loop-p-preserved c = items_more c.loop-p.invariant (ap is_some (sym c.kind.ensures) ∙ sym c.is_some.ensures ∙ c.loop-p-test.true) c.in_ok-item-2.ensures

pub returns-in_err-item-2 : goal.returns-in_err-item-2
returns-in_err-item-2 c = later_stops c.in_ok-item.ensures c.loop-p.invariant (ap is_some (sym c.kind.ensures) ∙ sym c.is_some.ensures ∙ c.loop-p-test.true) c.in_err-item-2.ensures c.from_residual-in_err-item-2.ensures.1

pub returns : goal.returns
returns c = all_end c.in_ok-item.ensures c.loop-p.invariant (ap is_some (sym c.kind.ensures) ∙ sym c.is_some.ensures ∙ c.loop-p-test.false)
