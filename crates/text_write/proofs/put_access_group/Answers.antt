use mathlib.Core.Path.{refl, sym}
use Rattle.std.proofs.Common.{◌≤◌, rules, tests}
use Rattle.spec_file.specs.Limit.{access_groups}
use Rattle.spec_table.specs.Policy.{row}
use Rattle.spec_table.specs.View.{view}
use Rattle.text_marks.specs.laws.Left.{wrote_both, wrote_as, room_first, room_next}
use Rattle.text_write.specs.laws.Access.{access_head, links_stored, rules_stored, access_bare, access_full}
use Rattle.text_write.proofs.put_access_group.Goals as goal

pub put_called-requires : goal.put_called-requires
put_called-requires c = let a = c.args in rw c.name_of.ensures (access_head (view a.table.now) (row (view a.table.now) access_groups a.i) c.requires.1)

pub put-requires : goal.put-requires
put-requires c =
    let a = c.args in
    let i = c.run-inputs.result in
    let r = c.run-rules.result in
    let y : i.end ≤ i.start = search (rules, tests) in
    let z : r.end ≤ r.start = search (rules, tests) in
    room_next _ (access_bare a.table.now a.i c.requires.0 c.run-inputs.ensures.start c.run-inputs.ensures.end c.run-rules.ensures.start c.run-rules.ensures.end y z) c.requires.1 (rw c.name_of.ensures at c.put_called.ensures)

pub put-requires-else-is_empty : goal.put-requires-else-is_empty
put-requires-else-is_empty c =
    let a = c.args in
    let i = c.run-inputs.result in
    let r = c.run-rules.result in
    let z : i.end ≤ i.start → r.end ≤ r.start → ⊥ = λ p q. absurd (search (rules, tests)) in
    room_first _ _ refl (room_next _ (access_full a.table.now a.i c.requires.0 c.run-inputs.ensures.start c.run-inputs.ensures.end c.run-rules.ensures.start c.run-rules.ensures.end z) c.requires.1 (rw c.name_of.ensures at c.put_called.ensures))

pub put_inputs-requires : goal.put_inputs-requires
put_inputs-requires c =
    let a = c.args in
    let i = c.run-inputs.result in
    let r = c.run-rules.result in
    let z : i.end ≤ i.start → r.end ≤ r.start → ⊥ = λ p q. absurd (search (rules, tests)) in
    (links_stored a.table.now a.i c.requires.0 c.run-inputs.ensures.start c.run-inputs.ensures.end c.run-rules.ensures.start c.run-rules.ensures.end, room_first _ _ refl (room_next _ refl (room_next _ (access_full a.table.now a.i c.requires.0 c.run-inputs.ensures.start c.run-inputs.ensures.end c.run-rules.ensures.start c.run-rules.ensures.end z) c.requires.1 (rw c.name_of.ensures at c.put_called.ensures)) c.put-else-is_empty.ensures))

pub put_rules-requires : goal.put_rules-requires
put_rules-requires c =
    let a = c.args in
    let i = c.run-inputs.result in
    let r = c.run-rules.result in
    let z : i.end ≤ i.start → r.end ≤ r.start → ⊥ = λ p q. absurd (search (rules, tests)) in
    (rules_stored a.table.now a.i c.requires.0 c.run-inputs.ensures.start c.run-inputs.ensures.end c.run-rules.ensures.start c.run-rules.ensures.end, room_first _ _ refl (room_next _ refl (room_next _ refl (room_next _ (access_full a.table.now a.i c.requires.0 c.run-inputs.ensures.start c.run-inputs.ensures.end c.run-rules.ensures.start c.run-rules.ensures.end z) c.requires.1 (rw c.name_of.ensures at c.put_called.ensures)) c.put-else-is_empty.ensures) c.put_inputs.ensures))

pub put-requires-else-is_empty-2 : goal.put-requires-else-is_empty-2
put-requires-else-is_empty-2 c =
    let a = c.args in
    let i = c.run-inputs.result in
    let r = c.run-rules.result in
    let z : i.end ≤ i.start → r.end ≤ r.start → ⊥ = λ p q. absurd (search (rules, tests)) in
    room_next _ refl (room_next _ refl (room_next _ refl (room_next _ (access_full a.table.now a.i c.requires.0 c.run-inputs.ensures.start c.run-inputs.ensures.end c.run-rules.ensures.start c.run-rules.ensures.end z) c.requires.1 (rw c.name_of.ensures at c.put_called.ensures)) c.put-else-is_empty.ensures) c.put_inputs.ensures) c.put_rules.ensures

pub returns-then-is_empty-2 : goal.returns-then-is_empty-2
returns-then-is_empty-2 c =
    let a = c.args in
    let i = c.run-inputs.result in
    let r = c.run-rules.result in
    let y : i.end ≤ i.start = search (rules, tests) in
    let z : r.end ≤ r.start = search (rules, tests) in
    wrote_as (wrote_both (rw c.name_of.ensures at c.put_called.ensures) c.put.ensures) (sym (access_bare a.table.now a.i c.requires.0 c.run-inputs.ensures.start c.run-inputs.ensures.end c.run-rules.ensures.start c.run-rules.ensures.end y z))

pub returns-else-is_empty : goal.returns-else-is_empty
returns-else-is_empty c =
    let a = c.args in
    let i = c.run-inputs.result in
    let r = c.run-rules.result in
    let z : i.end ≤ i.start → r.end ≤ r.start → ⊥ = λ p q. absurd (search (rules, tests)) in
    wrote_as (wrote_both (rw c.name_of.ensures at c.put_called.ensures) (wrote_both c.put-else-is_empty.ensures (wrote_both c.put_inputs.ensures (wrote_both c.put_rules.ensures c.put-else-is_empty-2.ensures)))) (sym (access_full a.table.now a.i c.requires.0 c.run-inputs.ensures.start c.run-inputs.ensures.end c.run-rules.ensures.start c.run-rules.ensures.end z))
