use native.Mathlib.Omega.{arith}
use Rattle.table_read.specs.Stored.{section}
use Rattle.table_read.specs.laws.Stored.{header_there, part_read, name_first, name_count, name_small, name_low}
use Rattle.table_read.proofs.name_part.Goals as goal

pub strings_offset-strings-requires : goal.strings_offset-strings-requires
strings_offset-strings-requires c = header_there c.args.table.now c.requires.table

pub field-requires : goal.field-requires
field-requires c = (c.requires, omega (arith, name_small c.args.s, c.name_word-j.ensures))

pub overflow_add-j : goal.overflow_add-j
overflow_add-j c = omega (arith, name_low c.args.s, c.name_word-j.ensures)

pub field-length-requires : goal.field-length-requires
field-length-requires c = (c.requires, omega (arith, name_small c.args.s, c.name_word-j.ensures))

pub returns : goal.returns
returns c = part_read c.args.table.now (section c.args.s) c.args.i c.strings_offset-strings.ensures (name_first c.args.table.now c.args.s c.args.i c.name_word-j.ensures c.field.ensures) (name_count c.args.table.now c.args.s c.args.i c.name_word-j.ensures c.field-length.ensures)
