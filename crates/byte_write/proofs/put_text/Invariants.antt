use Rattle.std.specs.Prelude.{map, take}
use Rattle.byte_write.specs.Put.{Put, cased}
use Rattle.byte_write.proofs.put_text.Given as goal

abbrev pub invariant-loop-b : goal.invariant-loop-b
invariant-loop-b l = Put l.initial.lent l.lent l.at (map (cased l.low) (take l.b-index l.t)) l.next
