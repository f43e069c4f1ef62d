use Rattle.reg_refuse.specs.laws.Told.{add_placed, add_fits, added_here, not_added}
use Rattle.spec_places.specs.Storage.{lent}
use Rattle.spec_register.specs.Register.{client_of}
use Rattle.register.proofs.add.Goals as goal

pub enter-requires : goal.enter-requires
enter-requires c = let a = c.args in let s = lent a.table.now a.places.now a.states.now a.values.now in let k = client_of a.group.now a.level a.user.now a.host.now in record { placed = add_placed s k c.room_to_add.ensures c.in-Ok.is; fits = add_fits s k c.room_to_add.ensures c.in-Ok.is }

pub returns-in-Ok : goal.returns-in-Ok
returns-in-Ok c = let a = c.args in let s = lent a.table.now a.places.now a.states.now a.values.now in let k = client_of a.group.now a.level a.user.now a.host.now in let h = added_here s k c.room_to_add.ensures c.in-Ok.is c.enter.ensures.bytes c.enter.ensures.changed in record { value = h.0; places_after = h.1 }

pub returns-in-Err : goal.returns-in-Err
returns-in-Err c = let a = c.args in let s = lent a.table.now a.places.now a.states.now a.values.now in let k = client_of a.group.now a.level a.user.now a.host.now in let h = not_added s k c.room_to_add.ensures c.in-Err.is in record { value = h.0; places_after = h.1 }
