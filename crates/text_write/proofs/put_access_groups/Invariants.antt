use mathlib.Core.List.{map}
use lib.ListN.{drop}
use Rattle.spec_lists.specs.Select.{joined}
use Rattle.spec_file.specs.Limit.{access_groups}
use Rattle.spec_table.specs.View.{view}
use Rattle.text_marks.specs.laws.Left.{Left}
use Rattle.text_write.specs.Access.{access_text, accesses_text}
use Rattle.text_write.proofs.put_access_groups.Given as goal

abbrev pub invariant-loop-i : goal.invariant-loop-i
invariant-loop-i l = Left l.initial.out l.out (accesses_text (view l.table)) (joined (map (access_text (view l.table)) (drop l.i ((view l.table).records access_groups))))
