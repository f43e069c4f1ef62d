use Rattle.reg_enter.specs.laws.Entered.{freed_by}
use Rattle.reg_enter.proofs.free.Goals as goal

pub returns : goal.returns
returns c = let a = c.args in freed_by a.places.now a.p c.requires c.right-before.ensures c.free.ensures c.changed_bit.ensures
