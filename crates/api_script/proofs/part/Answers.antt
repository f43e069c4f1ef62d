use Rattle.std.proofs.Common.{sym}
use Rattle.api_script.specs.laws.Script.{part_in, part_none}
use Rattle.api_script.proofs.part.Goals as goal

pub returns-then-from-to : goal.returns-then-from-to
returns-then-from-to c = part_in c.args.pool.now c.args.from c.args.to c.min-to.ensures

pub returns-else-from-to : goal.returns-else-from-to
returns-else-from-to c = part_none c.args.pool.now c.args.from c.args.to c.min-to.ensures c.if-from-to.false
