use Rattle.spec_file.specs.Limit.{members}
use Rattle.spec_table.specs.View.{view}
use Rattle.spec_table.specs.Policy.{row}
use Rattle.spec_table.specs.Policy as policy
use Rattle.spec_table.specs.Check.{members_run}
use Rattle.ask_member.specs.Members.{groups, matches}
use Rattle.ask_member.specs.laws.Walk.{Searched}
use Rattle.ask_member.proofs.Name.is_member.Given as goal

abbrev pub invariant-loop-member : goal.invariant-loop-member
invariant-loop-member l = Searched (matches l.fn.self) (policy.name (view l.fn.table) members) (members_run (row (view l.fn.table) (groups l.fn.self) l.fn.group)) ((view l.fn.table).records members) l.member
