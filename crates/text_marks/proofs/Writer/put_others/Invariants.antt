use mathlib.Core.Path.{◌≡◌}
use Rattle.spec_table.specs.View.{view}
use Rattle.table_read.specs.Stored.{section}
use Rattle.text_marks.specs.Names.{run, names, others}
use Rattle.text_marks.specs.laws.Left.{Left}
use Rattle.text_marks.proofs.Writer.put_others.Given as goal

abbrev pub invariant-loop-i : goal.invariant-loop-i
invariant-loop-i l = Left l.initial.self l.self (others (names (view l.table) (section l.s) (run l.fn.records))) (others (names (view l.table) (section l.s) (run l.i-iterator))) × (l.i-iterator.end ≡ l.fn.records.end)
