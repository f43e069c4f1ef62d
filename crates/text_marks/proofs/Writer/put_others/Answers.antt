use mathlib.Core.Path.{refl, ◌∙◌}
use native.Mathlib.Omega.{arith}
use Rattle.spec_table.specs.View.{view}
use Rattle.table_read.specs.Stored.{section}
use Rattle.text_marks.specs.laws.Left.{left_on, left_room, room_first, room_next}
use Rattle.text_marks.specs.laws.Names.{others_on}
use Rattle.text_marks.proofs.Writer.put_others.Goals as goal

pub put_quoted-requires : goal.put_quoted-requires
put_quoted-requires c = let a = c.args in rw c.name_of.ensures (room_first _ _ refl (room_next _ (others_on (view a.table.now) (section a.s) c.loop-i.i-iterator c.in-Some.ensures.steps (omega (arith, c.requires.0.inside, c.loop-i.invariant.1))) (left_room c.loop-i.invariant.0 c.requires.1) c.put.ensures))

pub loop-i-preserved : goal.loop-i-preserved
loop-i-preserved c = let a = c.args in (left_on (left_on c.loop-i.invariant.0 (others_on (view a.table.now) (section a.s) c.loop-i.i-iterator c.in-Some.ensures.steps (omega (arith, c.requires.0.inside, c.loop-i.invariant.1))) c.put.ensures) refl (rw c.name_of.ensures at c.put_quoted.ensures), c.in-Some.ensures.steps.0 ∙ c.loop-i.invariant.1)
