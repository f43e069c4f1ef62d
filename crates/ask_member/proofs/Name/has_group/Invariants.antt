use Rattle.spec_lists.specs.Select.{any}
use Rattle.spec_file.specs.Limit.{rules, references}
use Rattle.spec_table.specs.View.{view}
use Rattle.spec_table.specs.Policy.{row, referred}
use Rattle.ask_member.specs.Members.{groups, matches, references_run}
use Rattle.ask_member.specs.laws.Walk.{Searched}
use Rattle.ask_member.proofs.Name.has_group.Given as goal

abbrev pub invariant-loop-reference : goal.invariant-loop-reference
invariant-loop-reference l = Searched (λ m. any (matches l.fn.self) m) (referred (view l.fn.table) (groups l.fn.self)) (references_run l.fn.self (row (view l.fn.table) rules l.fn.rule)) ((view l.fn.table).records references) l.reference
