use Rattle.spec_table.proofs.laws.Fields.{header_at}
use mathlib.Core.Path.{◌∙◌, sym}
use Rattle.table_fields.proofs.header_word.Goals as goal

pub returns : goal.returns
returns c = record { is = c.word.ensures.is ∙ sym (header_at c.args.b.now c.args.i c.requires.0 c.requires.1); small = c.word.ensures.small }
