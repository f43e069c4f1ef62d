use Rattle.std.proofs.Common.{arith}
use Rattle.std.proofs.lemmas.Grind.{common_steps}
use Rattle.byte_write.specs.laws.Room.{by_length, by_measure}
use Rattle.load_write.specs.laws.Table.{no_room, room}
use Rattle.load_room.proofs.write.Goals as goal

pub returns-then-lent-needed : goal.returns-then-lent-needed
returns-then-lent-needed c = no_room c.table-needed.ensures c.if-lent-needed.true

pub returns : goal.returns
returns c = room (grind (arith, common_steps, by_measure, by_length)) c.table-size.ensures
