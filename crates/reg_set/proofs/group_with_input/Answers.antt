use Rattle.std.proofs.Common.{refl}
use Rattle.reg_set.specs.laws.Set.{no_group, no_letter, input_of}
use Rattle.table_read.specs.laws.Search.{group_stored}
use Rattle.reg_set.proofs.group_with_input.Goals as goal

pub returns-in_err-i : goal.returns-in_err-i
returns-in_err-i c = rw c.from_residual.ensures (no_group c.args.table.now c.args.group.now c.args.letter c.group_named.ensures c.in_err-i.was)

pub first_input-requires : goal.first_input-requires
first_input-requires c = let a = c.args in group_stored a.table.now a.group.now c.in_ok-i.i c.group_named.ensures c.in_ok-i.was c.requires

pub returns-in_err-first_input : goal.returns-in_err-first_input
returns-in_err-first_input c = let a = c.args in rw c.from_residual-in_err-first_input.ensures (no_letter a.table.now a.group.now a.letter c.group_named.ensures c.in_ok-i.i c.in_ok-i.was refl c.first_input.ensures c.in_err-first_input.was)

pub returns : goal.returns
returns c = let a = c.args in input_of a.table.now a.group.now a.letter c.group_named.ensures c.in_ok-i.i c.in_ok-i.was c.in_ok-first_input.field-0 c.requires refl c.first_input.ensures c.in_ok-first_input.was
