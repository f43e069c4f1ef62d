use Rattle.std.proofs.Common.{[], ◌∷◌, refl, ◌∙◌}
use Rattle.table_fields.specs.Field.{section}
use Rattle.table_fields.specs.declared.Section.TheVariants.{HostGroups}
use Rattle.table_runs.specs.Follow.{all_runs}
use Rattle.table_runs.specs.laws.Follow.{gap_then, follow_on}
use Rattle.table_runs.specs.laws.Used.{members_reach}
use Rattle.table_follow.proofs.members_used_up.Goals as goal

pub returns-in_default : goal.returns-in_default
returns-in_default c = members_reach c.args.b.now refl (gap_then c.in_default.ensures (all_runs c.args.b.now (section HostGroups) (2 ∷ [])) 0)

pub returns : goal.returns
returns c = c.eq.ensures ∙ members_reach c.args.b.now c.section_count.ensures.is (follow_on c.in-Some.ensures c.runs_follow-hosts.ensures)
