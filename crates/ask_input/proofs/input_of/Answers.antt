use Rattle.std.proofs.Common.{refl}
use Rattle.table_read.specs.laws.Search.{answering_stored}
use Rattle.ask_input.specs.laws.LookUp.{input_missing, input_found}
use Rattle.ask_input.proofs.input_of.Goals as goal

pub returns-in_err-i : goal.returns-in_err-i
returns-in_err-i c =
    let e = c.from_residual.ensures in
    let f = c.in_err-i.was in
    rw e (input_missing c.args.table.now c.args.group.now c.args.letter c.answering_group.ensures f)

pub first_input-requires : goal.first_input-requires
first_input-requires c = answering_stored c.args.table.now c.args.group.now c.in_ok-i.i c.requires c.answering_group.ensures c.in_ok-i.was

pub returns : goal.returns
returns c = input_found c.args.table.now c.args.group.now c.args.letter c.in_ok-i.i c.answering_group.ensures c.in_ok-i.was refl c.first_input.ensures
