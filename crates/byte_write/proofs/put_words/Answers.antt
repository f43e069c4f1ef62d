use Rattle.std.proofs.Common.{arith}
use Rattle.byte_write.specs.laws.Puts.{words_turn}
use Rattle.byte_write.proofs.put_words.Goals as goal

pub loop-word-preserved : goal.loop-word-preserved
loop-word-preserved c = let i = c.loop-word in
    let e = c.put_word-next.ensures in
    (omega (arith, e.end), words_turn c.args.words.now c.args.at i.word-index (omega arith) i.invariant.1 e)
