use Rattle.std.proofs.Common.{ℕ, ◌+◌, ◌*◌, sym, ap₂, ◌∙◌}
use Rattle.table_fields.specs.Field.{section}
use Rattle.table_fields.specs.laws.Fields.{has_inside, has_word}
use Rattle.spec_table.specs.Fields.{word_at}
use Rattle.spec_table.proofs.laws.Fields.{has_header}
use Rattle.table_fields.proofs.field.Goals as goal

pub section_offset-requires : goal.section_offset-requires
section_offset-requires c = has_header c.args.b.now c.requires.stand

pub record_word-requires : goal.record_word-requires
record_word-requires c = let i = c.args.i in let j = c.args.j in rw (c.section_offset.ensures.is, c.width.ensures) (has_inside c.args.b.now (section c.args.s) i j c.requires)

pub returns : goal.returns
returns c = let i = c.args.i in let j = c.args.j in record { is = c.record_word.ensures.is ∙ ap₂ (λ (o w : ℕ). word_at c.args.b.now (o + (i * w + j) * 2)) c.section_offset.ensures.is c.width.ensures ∙ sym (has_word c.args.b.now (section c.args.s) i j c.requires); small = c.record_word.ensures.small }
