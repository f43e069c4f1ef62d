use Rattle.std.proofs.Common.{sym, ◌∙◌, arith}
use Rattle.table_runs.specs.laws.Sections.{no_header, other_form, sections_gap, sections_reach}
use Rattle.table_runs.proofs.sections_stand.Goals as goal

pub returns-in_default : goal.returns-in_default
returns-in_default c = sym (sections_gap c.args.b.now (omega arith) c.header_word.ensures.is c.if-header_word-ne-FORM.false c.in_default.ensures)

pub returns : goal.returns
returns c = c.strings_end.ensures ∙ sym (sections_reach c.args.b.now (omega arith) c.header_word.ensures.is c.if-header_word-ne-FORM.false c.in-Some.ensures)
