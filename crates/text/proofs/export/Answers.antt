use Rattle.text.specs.laws.Outcome.{text_fits, no_table, not_writable, no_room, in_room}
use Rattle.byte_write.specs.laws.Room.{by_measure, measured}
use mathlib.Core.Path.{◌∙◌, sym, refl}
use Rattle.text.proofs.export.Goals as goal

pub returns-then-not-is_table : goal.returns-then-not-is_table
returns-then-not-is_table c = no_table c.args.lent.now c.args.table.now (sym c.is_table.ensures ∙ c.if-not-is_table.true)

pub unwritable-requires : goal.unwritable-requires
unwritable-requires c = sym c.is_table.ensures ∙ c.if-not-is_table.false

pub returns-then-unwritable : goal.returns-then-unwritable
returns-then-unwritable c = not_writable c.args.lent.now c.args.table.now (sym c.is_table.ensures ∙ c.if-not-is_table.false) (sym c.unwritable.ensures ∙ c.if-unwritable.true)

pub write-needed-requires : goal.write-needed-requires
write-needed-requires c = (sym c.is_table.ensures ∙ c.if-not-is_table.false, text_fits c.args.table.now (sym c.is_table.ensures ∙ c.if-not-is_table.false))

pub returns-then-lent-needed : goal.returns-then-lent-needed
returns-then-lent-needed c = no_room c.args.lent.now c.args.table.now (sym c.is_table.ensures ∙ c.if-not-is_table.false) (sym c.unwritable.ensures ∙ c.if-unwritable.false) c.write-needed.ensures c.if-lent-needed.true

pub write-requires : goal.write-requires
write-requires c = (sym c.is_table.ensures ∙ c.if-not-is_table.false, text_fits c.args.table.now (sym c.is_table.ensures ∙ c.if-not-is_table.false))

pub returns : goal.returns
returns c = in_room c.args.lent.now c.args.table.now (sym c.is_table.ensures ∙ c.if-not-is_table.false) (sym c.unwritable.ensures ∙ c.if-unwritable.false) (measured c.args.lent.now c.write-needed.ensures).1 (by_measure c.write-needed.ensures c.if-lent-needed.false refl) c.write.ensures
