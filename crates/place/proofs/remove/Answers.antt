use Rattle.reg_refuse.specs.laws.Told.{remove_placed, removed_here, not_removed}
use Rattle.place.proofs.remove.Goals as goal

pub free-requires : goal.free-requires
free-requires c = let a = c.args in remove_placed a.places.now a.place c.room_to_remove.ensures c.in-Ok.is

pub returns-in-Ok : goal.returns-in-Ok
returns-in-Ok c = let a = c.args in let h = removed_here a.places.now a.place c.room_to_remove.ensures c.in-Ok.is c.free.ensures.bytes c.free.ensures.changed in record { value = h.0; places_after = h.1 }

pub returns-in-Err : goal.returns-in-Err
returns-in-Err c = let a = c.args in let h = not_removed a.places.now a.place c.room_to_remove.ensures c.in-Err.is in record { value = h.0; places_after = h.1 }
