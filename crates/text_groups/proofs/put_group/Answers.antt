use mathlib.Core.Path.{refl, sym}
use Rattle.std.proofs.Common.{◌<◌, ◌≤◌, rules, tests}
use Rattle.table_read.specs.Stored.{section}
use Rattle.text_marks.specs.laws.Left.{wrote_both, wrote_as, room_first, room_next}
use Rattle.text_groups.specs.laws.Groups.{group_empty, group_members, group_full}
use Rattle.text_groups.proofs.put_group.Goals as goal

pub put-requires-else-is_empty : goal.put-requires-else-is_empty
put-requires-else-is_empty c =
    let a = c.args in
    let r = c.run-members.result in
    let z : r.start < r.end = search (rules, tests) in
    room_first _ _ refl (room_next _ (group_full a.table.now (section a.s) a.word.now a.i c.run-members.ensures.start c.run-members.ensures.end c.requires.0 c.requires.1 z) c.requires.2 (rw c.name_of.ensures at c.put_called.ensures))

pub put_names-requires : goal.put_names-requires
put_names-requires c =
    let a = c.args in
    let r = c.run-members.result in
    let z : r.start < r.end = search (rules, tests) in
    (group_members a.table.now (section a.s) a.word.now a.i c.run-members.ensures.start c.run-members.ensures.end c.requires.0 c.requires.1, z, room_first _ _ refl (room_next _ refl (room_next _ (group_full a.table.now (section a.s) a.word.now a.i c.run-members.ensures.start c.run-members.ensures.end c.requires.0 c.requires.1 z) c.requires.2 (rw c.name_of.ensures at c.put_called.ensures)) c.put-else-is_empty.ensures))

pub put-requires-else-is_empty-2 : goal.put-requires-else-is_empty-2
put-requires-else-is_empty-2 c =
    let a = c.args in
    let r = c.run-members.result in
    let z : r.start < r.end = search (rules, tests) in
    room_next _ refl (room_next _ refl (room_next _ (group_full a.table.now (section a.s) a.word.now a.i c.run-members.ensures.start c.run-members.ensures.end c.requires.0 c.requires.1 z) c.requires.2 (rw c.name_of.ensures at c.put_called.ensures)) c.put-else-is_empty.ensures) c.put_names.ensures

pub returns-then-is_empty : goal.returns-then-is_empty
returns-then-is_empty c =
    let a = c.args in
    let r = c.run-members.result in
    let z : r.end ≤ r.start = search (rules, tests) in
    wrote_as (wrote_both (rw c.name_of.ensures at c.put_called.ensures) c.put.ensures) (sym (group_empty a.table.now (section a.s) a.word.now a.i c.run-members.ensures.start c.run-members.ensures.end z))

pub returns-else-is_empty : goal.returns-else-is_empty
returns-else-is_empty c =
    let a = c.args in
    let r = c.run-members.result in
    let z : r.start < r.end = search (rules, tests) in
    wrote_as (wrote_both (rw c.name_of.ensures at c.put_called.ensures) (wrote_both c.put-else-is_empty.ensures (wrote_both c.put_names.ensures c.put-else-is_empty-2.ensures))) (sym (group_full a.table.now (section a.s) a.word.now a.i c.run-members.ensures.start c.run-members.ensures.end c.requires.0 c.requires.1 z))
