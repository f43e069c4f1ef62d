use Rattle.std.proofs.Common.{sym, ◌∙◌}
use Rattle.spec_table.proofs.laws.Fields.{view_count}
use Rattle.table_read.specs.laws.Stored.{header_there}
use Rattle.table_read.specs.Stored.{section}
use Rattle.table_read.proofs.count.Goals as goal

pub section_count-requires : goal.section_count-requires
section_count-requires c = header_there c.args.table.now c.requires

pub returns : goal.returns
returns c = c.section_count.ensures.is ∙ sym (view_count c.args.table.now (section c.args.s))
