use Rattle.std.proofs.Common.{arith, rules}
use Rattle.prog_text.specs.laws.Put.{copied}
use Rattle.prog_text.proofs.Writer.put.Goals as goal

pub returns-clause-written : goal.returns-clause-written
returns-clause-written c =
    copied _ _ _ _ _ _ c.args.self.now.within (search rules) (omega arith) (search rules)
