use Rattle.std.proofs.Common.{[]}
use Rattle.reg_settle.specs.laws.Settle.{keeps_here}
use Rattle.reg_settle.proofs.kept_here.Goals as goal

pub returns : goal.returns
returns c = let a = c.args in keeps_here a.table.now a.places.now a.p [] c.client_at.ensures c.kept_checked.ensures
