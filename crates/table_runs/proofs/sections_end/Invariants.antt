use Rattle.std.proofs.Common.{[], ◌∷◌, ◌+◌, ◌*◌, ◌≤◌, length}
use Rattle.table_fields.specs.declared.Section.TheVariants.{UserGroups}
use Rattle.table_fields.specs.Field.{section}
use Rattle.table_runs.specs.laws.Follow.{Followed}
use Rattle.spec_table.specs.View.{extent}
use Rattle.spec_table.specs.Layout.{header_bytes}
use Rattle.table_runs.proofs.sections_end.Given as goal

abbrev pub invariant-loop-s : goal.invariant-loop-s
invariant-loop-s l = (header_bytes ≤ length l.b) × (l.at ≤ header_bytes + l.s-index * 1048576) × Followed (λ s. extent l.b (section s) ∷ []) UserGroups l.s-items header_bytes l.s-index l.at
