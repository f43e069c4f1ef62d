use mathlib.Core.List.{[]}
use native.Mathlib.Omega.{arith}
use Rattle.spec_rule.proofs.laws.Walk.{list_on}
use Rattle.spec_file.specs.Limit.{access_groups}
use Rattle.spec_table.specs.View.{view}
use Rattle.text_marks.specs.laws.Left.{left_on, left_room, room_first, texts_on}
use Rattle.text_write.specs.Access.{access_text}
use Rattle.text_write.proofs.put_access_groups.Goals as goal

pub put_access_group-requires : goal.put_access_group-requires
put_access_group-requires c = let a = c.args in (record { table = c.requires.0; inside = omega (arith, c.count-i-end.ensures, c.loop-i-test.true) }, room_first _ _ (texts_on (access_text (view a.table.now)) (list_on ((view a.table.now).records access_groups) [] c.loop-i.i (omega (arith, c.count-i-end.ensures, c.loop-i-test.true)))) (left_room c.loop-i.invariant c.requires.1))

pub loop-i-preserved : goal.loop-i-preserved
loop-i-preserved c = let a = c.args in left_on c.loop-i.invariant (texts_on (access_text (view a.table.now)) (list_on ((view a.table.now).records access_groups) [] c.loop-i.i (omega (arith, c.count-i-end.ensures, c.loop-i-test.true)))) c.put_access_group.ensures
