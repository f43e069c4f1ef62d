use Rattle.std.proofs.Common.{sym}
use Rattle.load_warnings.specs.laws.Filled.{wrote_in, wrote_out, wrote_skip}
use Rattle.load_warnings.proofs.put.Goals as goal

pub returns-then-k-skip : goal.returns-then-k-skip
returns-then-k-skip g c = sym (wrote_in c.args.skip c.args.k c.args.values.now c.args.value c.if-skip-k.true)

pub returns-else-k-skip : goal.returns-else-k-skip
returns-else-k-skip g c = sym (wrote_out c.args.skip c.args.k c.args.values.now c.args.value c.if-skip-k.true c.if-k-skip.false)

pub returns-else-skip-k : goal.returns-else-skip-k
returns-else-skip-k g c = sym (wrote_skip c.args.skip c.args.k c.args.values.now c.args.value c.if-skip-k.false)
