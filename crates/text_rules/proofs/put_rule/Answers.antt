use mathlib.Core.Path.{refl, sym, ◌∙◌}
use Rattle.spec_file.specs.Limit.{rules}
use Rattle.spec_table.specs.Policy.{row}
use Rattle.spec_table.specs.View.{view}
use Rattle.text_marks.specs.laws.Left.{wrote_both, wrote_as, room_first, room_next}
use Rattle.text_rules.specs.laws.Rules.{rule_bare, rule_full}
use Rattle.text_rules.proofs.put_rule.Goals as goal

pub put_body-requires : goal.put_body-requires
put_body-requires c = let a = c.args in (c.requires.0, room_first _ _ refl (room_next _ refl (room_next _ (rule_full (view a.table.now) (row (view a.table.now) rules a.rule) (sym c.has_body.ensures ∙ c.if-has_body.true)) c.requires.1 (rw c.field.ensures.is at c.put_head.ensures)) c.put.ensures))

pub put-requires-then-has_body : goal.put-requires-then-has_body
put-requires-then-has_body c = let a = c.args in room_next _ refl (room_next _ refl (room_next _ (rule_full (view a.table.now) (row (view a.table.now) rules a.rule) (sym c.has_body.ensures ∙ c.if-has_body.true)) c.requires.1 (rw c.field.ensures.is at c.put_head.ensures)) c.put.ensures) c.put_body.ensures

pub returns-then-has_body : goal.returns-then-has_body
returns-then-has_body c = let a = c.args in wrote_as (wrote_both (rw c.field.ensures.is at c.put_head.ensures) (wrote_both c.put.ensures (wrote_both c.put_body.ensures c.put-then-has_body.ensures))) (sym (rule_full (view a.table.now) (row (view a.table.now) rules a.rule) (sym c.has_body.ensures ∙ c.if-has_body.true)))

pub returns-else-has_body : goal.returns-else-has_body
returns-else-has_body c = let a = c.args in wrote_as (wrote_both (rw c.field.ensures.is at c.put_head.ensures) c.put-else-has_body.ensures) (sym (rule_bare (view a.table.now) (row (view a.table.now) rules a.rule) (sym c.has_body.ensures ∙ c.if-has_body.false)))
