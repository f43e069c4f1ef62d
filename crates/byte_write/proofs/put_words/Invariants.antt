use Rattle.std.specs.Prelude.{◌≡◌, ◌+◌, ◌*◌, take}
use Rattle.spec_lists.specs.Words.{spelled_out}
use Rattle.byte_write.specs.Put.{Put}
use Rattle.byte_write.proofs.put_words.Given as goal

abbrev pub invariant-loop-word : goal.invariant-loop-word
invariant-loop-word l = (l.next ≡ l.at + 2 * l.word-index) × Put l.initial.lent l.lent l.at (spelled_out (take l.word-index l.words)) l.next
