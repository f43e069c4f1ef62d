use Rattle.reg_refuse.specs.laws.Told.{add_placed, add_fits, added_here, not_added}
use Rattle.spec_places.specs.Storage.{lent}
use Rattle.reg_bytes.specs.Placed.{client_lent}
use Rattle.reg_checked.proofs.add_checked.Goals as goal

pub enter_checked-requires : goal.enter_checked-requires
enter_checked-requires c = let a = c.args in let s = lent a.table.now a.places.now a.states.now a.values.now in let k = client_lent a.c in record { table_value = c.requires; placed = add_placed s k c.room_to_add.ensures c.in-Ok.is; fits = add_fits s k c.room_to_add.ensures c.in-Ok.is }

pub returns-in-Ok : goal.returns-in-Ok
returns-in-Ok c = let a = c.args in let s = lent a.table.now a.places.now a.states.now a.values.now in let k = client_lent a.c in let h = added_here s k c.room_to_add.ensures c.in-Ok.is c.enter_checked.ensures.bytes c.enter_checked.ensures.changed in record { value = h.0; places_after = h.1 }

pub returns-in-Err : goal.returns-in-Err
returns-in-Err c = let a = c.args in let s = lent a.table.now a.places.now a.states.now a.values.now in let k = client_lent a.c in let h = not_added s k c.room_to_add.ensures c.in-Err.is in record { value = h.0; places_after = h.1 }
