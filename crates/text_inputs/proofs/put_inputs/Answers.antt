use mathlib.Core.List.{[]}
use mathlib.Core.Path.{◌∙◌}
use native.Mathlib.Omega.{arith}
use Rattle.spec_file.specs.Limit.{inputs}
use Rattle.spec_table.specs.View.{view}
use Rattle.text_marks.specs.laws.Left.{left_on, left_room, room_first, texts_on}
use Rattle.text_marks.specs.laws.Names.{part_turn}
use Rattle.text_inputs.specs.Inputs.{input_text}
use Rattle.text_inputs.proofs.put_inputs.Goals as goal

pub put_input-requires : goal.put_input-requires
put_input-requires c = let a = c.args in (record { table = c.requires.0.table; inside = omega (arith, c.requires.0.inside, c.loop-i.invariant.1, c.in-Some.ensures.steps.1.0, c.in-Some.ensures.steps.1.1) }, room_first _ _ (texts_on (input_text (view a.table.now)) (part_turn ((view a.table.now).records inputs) [] c.loop-i.i-iterator c.in-Some.ensures.steps (omega (arith, c.requires.0.inside, c.loop-i.invariant.1)))) (left_room c.loop-i.invariant.0 c.requires.1))

pub loop-i-preserved : goal.loop-i-preserved
loop-i-preserved c = let a = c.args in (left_on c.loop-i.invariant.0 (texts_on (input_text (view a.table.now)) (part_turn ((view a.table.now).records inputs) [] c.loop-i.i-iterator c.in-Some.ensures.steps (omega (arith, c.requires.0.inside, c.loop-i.invariant.1)))) c.put_input.ensures, c.in-Some.ensures.steps.0 ∙ c.loop-i.invariant.1)
