use Rattle.std.proofs.Common.{rules}
use mathlib.Core.Path.{refl, sym}
use Rattle.spec_table.specs.View.{view}
use Rattle.text_marks.specs.laws.Left.{wrote_both, wrote_as, room_first, room_next}
use Rattle.text_groups.specs.Groups.{users, hosts}
use Rattle.text_write.specs.laws.Whole.{room_from_start, text_parts}
use Rattle.text_write.proofs.write.Goals as goal

pub put_groups-requires : goal.put_groups-requires
put_groups-requires c = let a = c.args in (c.requires.0, users, room_first _ _ (text_parts (view a.table.now)) (room_from_start (view a.table.now) c.requires.1))

pub put_groups-requires-2 : goal.put_groups-requires-2
put_groups-requires-2 c = let a = c.args in (c.requires.0, hosts, room_first _ _ refl (room_next _ (text_parts (view a.table.now)) (room_from_start (view a.table.now) c.requires.1) c.put_groups.ensures))

pub put_access_groups-requires : goal.put_access_groups-requires
put_access_groups-requires c = let a = c.args in (c.requires.0, room_next _ refl (room_next _ (text_parts (view a.table.now)) (room_from_start (view a.table.now) c.requires.1) c.put_groups.ensures) c.put_groups-2.ensures)

pub returns : goal.returns
returns c =
    let p = wrote_as (wrote_both c.put_groups.ensures (wrote_both c.put_groups-2.ensures c.put_access_groups.ensures)) (sym (text_parts (view c.args.table.now))) in
    let e = p.same in
    let q = p.put in
    search rules
