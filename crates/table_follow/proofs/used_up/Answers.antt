use Rattle.std.proofs.Common.{refl}
use Rattle.table_fields.specs.Field.{section}
use Rattle.table_runs.specs.laws.Used.{reaches}
use Rattle.table_follow.proofs.used_up.Goals as goal

pub returns-in_default : goal.returns-in_default
returns-in_default c = reaches c.args.b.now (section c.args.of) refl c.in_default.ensures

pub returns : goal.returns
returns c = reaches c.args.b.now (section c.args.of) c.section_count.ensures.is c.in-Some.ensures
