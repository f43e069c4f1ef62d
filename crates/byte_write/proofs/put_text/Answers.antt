use Rattle.std.proofs.Common.{arith}
use Rattle.byte_write.specs.Put.{cased}
use Rattle.byte_write.specs.laws.Puts.{text_turn}
use Rattle.byte_write.proofs.put_text.Goals as goal

pub loop-b-preserved : goal.loop-b-preserved
loop-b-preserved c = let i = c.loop-b in
    text_turn (cased c.args.low) c.args.t.now c.args.at i.b-index (omega arith) i.invariant (rw c.in_case.ensures at c.put_byte-next.ensures)
