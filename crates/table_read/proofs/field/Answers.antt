use Rattle.table_read.specs.laws.Stored.{has_field}
use Rattle.table_read.specs.Stored.{section}
use Rattle.table_read.proofs.field.Goals as goal

pub field-requires : goal.field-requires
field-requires c = has_field c.args.table.now (section c.args.s) c.args.i c.requires.0 c.args.j c.requires.1
