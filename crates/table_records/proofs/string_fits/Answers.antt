use Rattle.std.proofs.Common.{sym, ◌∙◌}
use Rattle.table_records.specs.laws.Records.{string_is}
use Rattle.table_fields.specs.Field.{section}
use Rattle.spec_table.specs.View.{view}
use Rattle.spec_table.specs.Policy.{row}
use borrow.Author.Tests.{le-leb, lt-leb}
use Prim.Native.Nat.{◌+◌}
use Rattle.table_records.proofs.string_fits.Goals as goal

pub returns-then-field-length : goal.returns-then-field-length
returns-then-field-length c = let a = c.args in sym (string_is a.b.now c.requires.stand (row (view a.b.now) (section a.s) a.i) a.j a.longest c.field.ensures.is c.field-length.ensures.is c.strings_count.ensures.is ∙ rw (le-leb (c.field.result + c.field-length.result) c.strings_count.result c.if-field-length.true))

pub returns-else-field-length : goal.returns-else-field-length
returns-else-field-length c = let a = c.args in sym (string_is a.b.now c.requires.stand (row (view a.b.now) (section a.s) a.i) a.j a.longest c.field.ensures.is c.field-length.ensures.is c.strings_count.ensures.is ∙ rw (lt-leb (c.field.result + c.field-length.result) c.strings_count.result c.if-field-length.false))
