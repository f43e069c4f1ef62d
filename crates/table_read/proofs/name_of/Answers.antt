use Rattle.table_read.specs.laws.Stored.{header_there, name_ends, name_read, name_first, name_count, name_small, name_low}
use Rattle.table_read.specs.Stored.{section}
use native.Mathlib.Omega.{arith}
use Rattle.table_read.proofs.name_of.Goals as goal

pub strings_offset-strings-requires : goal.strings_offset-strings-requires
strings_offset-strings-requires c = header_there c.args.table.now c.requires.table

pub field-requires : goal.field-requires
field-requires c = (c.requires, omega (arith, name_small c.args.s, c.name_word-j.ensures))

pub overflow_add-a : goal.overflow_add-a
overflow_add-a c = omega (arith, c.strings_offset-strings.ensures.small, c.field.ensures.small)

pub overflow_add-j : goal.overflow_add-j
overflow_add-j c = omega (arith, name_low c.args.s, c.name_word-j.ensures)

pub field-requires-2 : goal.field-requires-2
field-requires-2 c = (c.requires, omega (arith, name_small c.args.s, c.name_word-j.ensures))

pub overflow_add-e : goal.overflow_add-e
overflow_add-e c = omega (arith, c.strings_offset-strings.ensures.small, c.field.ensures.small, c.field-2.ensures.small)

pub slice_bounds-result-end : goal.slice_bounds-result-end
slice_bounds-result-end c = name_ends c.args.table.now (section c.args.s) c.args.i c.requires c.strings_offset-strings.ensures (name_first c.args.table.now c.args.s c.args.i c.name_word-j.ensures c.field.ensures) (name_count c.args.table.now c.args.s c.args.i c.name_word-j.ensures c.field-2.ensures)

pub returns : goal.returns
returns c = name_read c.args.table.now (section c.args.s) c.args.i c.requires c.strings_offset-strings.ensures (name_first c.args.table.now c.args.s c.args.i c.name_word-j.ensures c.field.ensures) (name_count c.args.table.now c.args.s c.args.i c.name_word-j.ensures c.field-2.ensures)
