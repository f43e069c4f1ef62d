use Rattle.reg_bytes.specs.Placed.{client_lent}
use Rattle.reg_kept.specs.laws.Kept.{keeps_none, keeps_group}
use Rattle.table_read.specs.laws.Search.{answering_stored}
use Rattle.reg_kept.proofs.kept_checked.Goals as goal

pub kept_by_group-requires : goal.kept_by_group-requires
kept_by_group-requires c = answering_stored c.args.table.now c.args.c.group.now c.in-Some.i c.requires c.answering_group.ensures c.in-Some.is

pub returns-in-None : goal.returns-in-None
returns-in-None c = keeps_none c.args.table.now c.requires c.args.states.now c.args.values.now (client_lent c.args.c) c.answering_group.ensures c.in-None.is c.nothing_kept.ensures

pub returns-in-Some : goal.returns-in-Some
returns-in-Some c = keeps_group c.args.table.now c.requires c.args.states.now c.args.values.now (client_lent c.args.c) c.in-Some.i c.answering_group.ensures c.in-Some.is c.kept_by_group.ensures
