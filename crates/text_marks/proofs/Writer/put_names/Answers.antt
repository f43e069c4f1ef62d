use mathlib.Core.Path.{sym}
use Rattle.spec_table.specs.View.{view}
use Rattle.table_read.specs.Stored.{section}
use Rattle.text_marks.specs.laws.Left.{wrote_both, wrote_as, room_first, room_next}
use Rattle.text_marks.specs.laws.Names.{listed_is}
use Rattle.text_marks.proofs.Writer.put_names.Goals as goal

pub put_quoted-requires : goal.put_quoted-requires
put_quoted-requires c = let a = c.args in rw c.name_of.ensures (room_first _ _ (listed_is (view a.table.now) (section a.s) a.records c.requires.0.inside c.requires.1) c.requires.2)

pub put_others-requires : goal.put_others-requires
put_others-requires c = let a = c.args in (record { table = c.requires.0.table; inside = c.requires.0.inside }, room_next _ (listed_is (view a.table.now) (section a.s) a.records c.requires.0.inside c.requires.1) c.requires.2 (rw c.name_of.ensures at c.put_quoted.ensures))

pub returns : goal.returns
returns c = let a = c.args in wrote_as (wrote_both (rw c.name_of.ensures at c.put_quoted.ensures) c.put_others.ensures) (sym (listed_is (view a.table.now) (section a.s) a.records c.requires.0.inside c.requires.1))
