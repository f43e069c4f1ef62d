use Rattle.reg_refuse.specs.laws.Told.{change_placed, change_fits, changed_here, not_changed}
use Rattle.spec_places.specs.Storage.{lent}
use Rattle.reg_bytes.specs.Placed.{client_lent}
use Rattle.reg_checked.proofs.change_checked.Goals as goal

pub enter_checked-requires : goal.enter_checked-requires
enter_checked-requires c = let a = c.args in let s = lent a.table.now a.places.now a.states.now a.values.now in let k = client_lent a.c in record { table_value = c.requires; placed = change_placed s k a.place c.room_to_change.ensures c.in-Ok.is; fits = change_fits s k a.place c.room_to_change.ensures c.in-Ok.is }

pub returns-in-Ok : goal.returns-in-Ok
returns-in-Ok c = let a = c.args in let s = lent a.table.now a.places.now a.states.now a.values.now in let k = client_lent a.c in let h = changed_here s k a.place c.room_to_change.ensures c.in-Ok.is c.enter_checked.ensures.bytes c.enter_checked.ensures.changed in record { value = h.0; places_after = h.1 }

pub returns-in-Err : goal.returns-in-Err
returns-in-Err c = let a = c.args in let s = lent a.table.now a.places.now a.states.now a.values.now in let k = client_lent a.c in let h = not_changed s k a.place c.room_to_change.ensures c.in-Err.is in record { value = h.0; places_after = h.1 }
