use mathlib.Core.List.{map}
use lib.ListN.{drop}
use Rattle.spec_lists.specs.Select.{joined}
use Rattle.spec_table.specs.View.{view}
use Rattle.table_read.specs.Stored.{section}
use Rattle.text_marks.specs.laws.Left.{Left}
use Rattle.text_groups.specs.Groups.{group_text, groups_text}
use Rattle.text_groups.proofs.put_groups.Given as goal

abbrev pub invariant-loop-i : goal.invariant-loop-i
invariant-loop-i l = Left l.initial.out l.out (groups_text (view l.table) (section l.s) l.word) (joined (map (group_text (view l.table) (section l.s) l.word) (drop l.i ((view l.table).records (section l.s)))))
