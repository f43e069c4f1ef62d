use Rattle.std.proofs.Common.{arith}
use Rattle.load.specs.laws.Outcome.{load_long}
use Rattle.load.proofs.load.Goals as goal

pub returns : goal.returns
returns c = load_long c.args.lent.now c.args.text.now (omega arith)
