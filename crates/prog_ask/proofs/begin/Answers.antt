use Rattle.prog_ask.specs.laws.Asked.{begins_ready, begins_refused}
use Rattle.prog_ask.proofs.begin.Goals as goal

pub returns-in-Accepted : goal.returns-in-Accepted
returns-in-Accepted c = begins_ready c.args.rules.now c.args.table.now c.args.out.now c.load.ensures c.in-Accepted.is

pub returns-in-Refused : goal.returns-in-Refused
returns-in-Refused c = begins_refused c.args.rules.now c.args.table.now c.args.out.now c.load.ensures c.in-Refused.is c.requires c.refusal_line-n.ensures
