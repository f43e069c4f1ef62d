use Rattle.std.proofs.Common.{[], ◌∷◌, get_or, arith}
use Rattle.table_fields.specs.declared.Section.TheVariants.{UserGroups}
use Rattle.table_fields.specs.declared.TheConstants.{SECTIONS}
use Rattle.table_fields.specs.Field.{section}
use Rattle.table_runs.specs.Follow.{sum_limit}
use Rattle.table_runs.specs.laws.Sections.{bytes_small, section_here, section_elsewhere}
use Rattle.table_runs.specs.laws.Follow.{followed_none, followed_next, followed_gap, followed_all}
use Rattle.spec_table.specs.View.{extent}
use Rattle.spec_table.specs.Layout.{header_bytes}
use Rattle.table_runs.proofs.sections_end.Goals as goal

pub returns-then-section_offset-at : goal.returns-then-section_offset-at
returns-then-section_offset-at c = let b = c.args.b.now in let at = c.loop-s.at in followed_gap (λ s. extent b (section s) ∷ []) UserGroups _ header_bytes c.loop-s.s-index at c.loop-s.invariant.2 (omega arith) (section_elsewhere b (section (get_or SECTIONS c.loop-s.s-index UserGroups)) at sum_limit c.section_offset.ensures.is c.if-section_offset-at.true) sum_limit

pub loop-s-preserved : goal.loop-s-preserved
loop-s-preserved c = let b = c.args.b.now in let s = section (get_or SECTIONS c.loop-s.s-index UserGroups) in let at = c.loop-s.at in let l = bytes_small c.section_count.result s c.section_count.ensures.small c.width.ensures in (omega arith, omega arith, followed_next (λ s. extent b (section s) ∷ []) UserGroups _ header_bytes c.loop-s.s-index at c.loop-s.invariant.2 (omega arith) (section_here b s at sum_limit c.section_offset.ensures.is c.section_count.ensures.is c.width.ensures c.if-section_offset-at.false (omega arith)))

pub returns : goal.returns
returns c = followed_all (λ s. extent c.args.b.now (section s) ∷ []) UserGroups SECTIONS header_bytes c.loop-s.s-index c.loop-s.at c.loop-s.invariant.2 (omega arith) sum_limit (omega arith)
