use Rattle.reload.specs.laws.Reload.{no_room, table_left, reload_refused, reload_accepted}
use Rattle.reg_clear.specs.laws.Clear.{room_places, room_states}
use Rattle.spec_places.specs.Storage.{lent}
use mathlib.Core.List.{[]}
use mathlib.Core.Path.{sym, ◌∙◌}
use Rattle.reload.proofs.reload.Goals as goal

pub returns-then-not-has_room : goal.returns-then-not-has_room
returns-then-not-has_room c = λ v. let a = c.args in no_room (lent a.table.now a.places.now a.states.now v) a.text.now (sym c.has_room.ensures ∙ c.if-not-has_room.true)

pub clear_states-requires : goal.clear_states-requires
clear_states-requires c = let a = c.args in room_states (lent [] a.places.now a.states.now []) (sym c.has_room.ensures ∙ c.if-not-has_room.false)

pub settle-changed-requires : goal.settle-changed-requires
settle-changed-requires c = let a = c.args in record { placed = room_places (lent [] a.places.now a.states.now []) (sym c.has_room.ensures ∙ c.if-not-has_room.false); table_value = table_left (lent a.table.now a.places.now a.states.now []) a.text.now c.load.ensures c.in-Accepted.is }

pub returns-in-Refused : goal.returns-in-Refused
returns-in-Refused c = λ v. let a = c.args in reload_refused (lent a.table.now a.places.now a.states.now v) a.text.now c.load.ensures (sym c.has_room.ensures ∙ c.if-not-has_room.false) c.in-Refused.is

pub returns-in-Accepted : goal.returns-in-Accepted
returns-in-Accepted c = λ v. let a = c.args in reload_accepted (lent a.table.now a.places.now a.states.now v) a.text.now c.load.ensures (sym c.has_room.ensures ∙ c.if-not-has_room.false) c.in-Accepted.is c.settle-changed.ensures c.clear_states.ensures
