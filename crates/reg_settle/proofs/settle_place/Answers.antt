use mathlib.Core.Path.{sym, ◌∙◌}
use Rattle.reg_settle.specs.laws.Settle.{place_free, place_settled}
use Rattle.reg_settle.proofs.settle_place.Goals as goal

pub returns-then-not-is_taken : goal.returns-then-not-is_taken
returns-then-not-is_taken c = let a = c.args in place_free a.table.now a.places.now a.p (sym c.is_taken.ensures ∙ c.if-not-is_taken.true)

pub returns : goal.returns
returns c = let a = c.args in place_settled a.table.now a.places.now a.p {k = c.kept_here-k.result} c.requires.placed (sym c.is_taken.ensures ∙ c.if-not-is_taken.false) c.kept_here-k.ensures c.put_kept.ensures c.right-before.ensures c.changed.ensures
