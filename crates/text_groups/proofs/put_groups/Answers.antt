use mathlib.Core.List.{[]}
use native.Mathlib.Omega.{arith}
use Rattle.spec_rule.proofs.laws.Walk.{list_on}
use Rattle.spec_table.specs.View.{view}
use Rattle.table_read.specs.Stored.{section}
use Rattle.text_marks.specs.laws.Left.{left_on, left_room, room_first, texts_on}
use Rattle.text_groups.specs.Groups.{group_text}
use Rattle.text_groups.proofs.put_groups.Goals as goal

pub put_group-requires : goal.put_group-requires
put_group-requires c = let a = c.args in (record { table = c.requires.0; inside = omega (arith, c.count-i-end.ensures, c.loop-i-test.true) }, c.requires.1, room_first _ _ (texts_on (group_text (view a.table.now) (section a.s) a.word.now) (list_on ((view a.table.now).records (section a.s)) [] c.loop-i.i (omega (arith, c.count-i-end.ensures, c.loop-i-test.true)))) (left_room c.loop-i.invariant c.requires.2))

pub loop-i-preserved : goal.loop-i-preserved
loop-i-preserved c = let a = c.args in left_on c.loop-i.invariant (texts_on (group_text (view a.table.now) (section a.s) a.word.now) (list_on ((view a.table.now).records (section a.s)) [] c.loop-i.i (omega (arith, c.count-i-end.ensures, c.loop-i-test.true)))) c.put_group.ensures
