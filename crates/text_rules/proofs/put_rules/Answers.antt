use mathlib.Core.List.{[]}
use mathlib.Core.Path.{◌∙◌}
use native.Mathlib.Omega.{arith}
use Rattle.spec_file.specs.Limit.{rules}
use Rattle.spec_table.specs.View.{view}
use Rattle.text_marks.specs.laws.Left.{left_on, left_room, room_first, texts_on}
use Rattle.text_marks.specs.laws.Names.{part_turn}
use Rattle.text_rules.specs.Rules.{rule_text}
use Rattle.text_rules.proofs.put_rules.Goals as goal

pub put_rule-requires : goal.put_rule-requires
put_rule-requires c = let a = c.args in (record { table = c.requires.0.table; inside = omega (arith, c.requires.0.inside, c.loop-i.invariant.1, c.in-Some.ensures.steps.1.0, c.in-Some.ensures.steps.1.1) }, room_first _ _ (texts_on (rule_text (view a.table.now)) (part_turn ((view a.table.now).records rules) [] c.loop-i.i-iterator c.in-Some.ensures.steps (omega (arith, c.requires.0.inside, c.loop-i.invariant.1)))) (left_room c.loop-i.invariant.0 c.requires.1))

pub loop-i-preserved : goal.loop-i-preserved
loop-i-preserved c = let a = c.args in (left_on c.loop-i.invariant.0 (texts_on (rule_text (view a.table.now)) (part_turn ((view a.table.now).records rules) [] c.loop-i.i-iterator c.in-Some.ensures.steps (omega (arith, c.requires.0.inside, c.loop-i.invariant.1)))) c.put_rule.ensures, c.in-Some.ensures.steps.0 ∙ c.loop-i.invariant.1)
