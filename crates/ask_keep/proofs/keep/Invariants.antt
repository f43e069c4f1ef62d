use Rattle.std.proofs.Common.{◌≡◌, ◌+◌, length, drop}
use Rattle.std.proofs.lemmas.List.Edits.{sets}
use Rattle.ask_kept.specs.Kept.{client_bits}
use Rattle.ask_keep.proofs.keep.Given as goal

abbrev pub invariant-loop-i : goal.invariant-loop-i
invariant-loop-i l = (length l.kept ≡ length l.initial.kept) × (sets l.initial.kept l.fn.at (client_bits l.fn.table l.fn.group l.fn.user l.fn.host l.fn.level) ≡ sets l.kept (l.fn.at + l.i) (drop l.i (client_bits l.fn.table l.fn.group l.fn.user l.fn.host l.fn.level)))
