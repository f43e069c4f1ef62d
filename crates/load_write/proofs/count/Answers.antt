use Rattle.load_write.specs.laws.Header.{counted_all}
use Rattle.load_write.proofs.count.Goals as goal

pub returns : goal.returns
returns c = counted_all c.args.tokens.now c.args.m c.count.result c.requires c.count.ensures
