use mathlib.Core.Path.{refl, sym}
use Rattle.text_marks.specs.laws.Left.{wrote_both, wrote_as, room_first, room_next}
use Rattle.text_body.specs.laws.Bodies.{body_parts, references_stored}
use Rattle.text_body.proofs.put_body.Goals as goal

pub put_references-requires : goal.put_references-requires
put_references-requires c = let a = c.args in ((references_stored a.table.now a.rule c.run-users.ensures.start c.run-users.ensures.end c.run-hosts.ensures.start c.run-hosts.ensures.end c.requires.0).0, room_first _ _ (body_parts a.table.now a.rule c.run-users.ensures.start c.run-users.ensures.end c.run-hosts.ensures.start c.run-hosts.ensures.end) c.requires.1)

pub put_references-requires-2 : goal.put_references-requires-2
put_references-requires-2 c = let a = c.args in ((references_stored a.table.now a.rule c.run-users.ensures.start c.run-users.ensures.end c.run-hosts.ensures.start c.run-hosts.ensures.end c.requires.0).1, room_first _ _ refl (room_next _ (body_parts a.table.now a.rule c.run-users.ensures.start c.run-users.ensures.end c.run-hosts.ensures.start c.run-hosts.ensures.end) c.requires.1 c.put_references.ensures))

pub put_calculation-requires : goal.put_calculation-requires
put_calculation-requires c = let a = c.args in (c.requires.0, room_first _ _ refl (room_next _ refl (room_next _ (body_parts a.table.now a.rule c.run-users.ensures.start c.run-users.ensures.end c.run-hosts.ensures.start c.run-hosts.ensures.end) c.requires.1 c.put_references.ensures) c.put_references-2.ensures))

pub put_unknown-requires : goal.put_unknown-requires
put_unknown-requires c = let a = c.args in rw c.field.ensures.is (room_next _ refl (room_next _ refl (room_next _ (body_parts a.table.now a.rule c.run-users.ensures.start c.run-users.ensures.end c.run-hosts.ensures.start c.run-hosts.ensures.end) c.requires.1 c.put_references.ensures) c.put_references-2.ensures) c.put_calculation.ensures)

pub returns : goal.returns
returns c = let a = c.args in wrote_as (wrote_both c.put_references.ensures (wrote_both c.put_references-2.ensures (wrote_both c.put_calculation.ensures (rw c.field.ensures.is at c.put_unknown.ensures)))) (sym (body_parts a.table.now a.rule c.run-users.ensures.start c.run-users.ensures.end c.run-hosts.ensures.start c.run-hosts.ensures.end))
