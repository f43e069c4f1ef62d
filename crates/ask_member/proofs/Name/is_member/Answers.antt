use Rattle.std.proofs.Common.{sym, ap, ◌∙◌, arith, []}
use Rattle.spec_file.specs.Limit.{members}
use Rattle.spec_table.specs.View.{view}
use Rattle.spec_table.specs.Policy as policy
use Rattle.spec_table.specs.Check.{members_run}
use Rattle.spec_table.specs.Policy.{row}
use Rattle.spec_table.proofs.laws.Standing.{stands}
use Rattle.ask_member.specs.Members.{groups, matches}
use Rattle.ask_member.specs.laws.Members.{members_within}
use Rattle.ask_member.specs.laws.Walk.{one_found, one_searched}
use Rattle.ask_member.proofs.Name.is_member.Goals as goal

pub name_of-requires : goal.name_of-requires
name_of-requires c =
    let b = c.args.table.now in
    record {
      table = c.requires.table;
      inside =
          omega (arith, members_within (view b) (stands b c.requires.table).1 c.args.self c.args.group c.requires.inside, rw c.groups.ensures at c.run-run.ensures.end);
    }

pub returns-then-matches : goal.returns-then-matches
returns-then-matches c =
    let b = c.args.table.now in
    let k = c.args.self in
    let start = rw c.groups.ensures at c.run-run.ensures.start in
    let end = rw c.groups.ensures at c.run-run.ensures.end in
    sym (
    one_found
    (matches k)
    (policy.name (view b) members)
    (members_run (row (view b) (groups k) c.args.group))
    ((view b).records members)
    []
    c.loop-member.invariant
    (omega (arith, start))
    end
    c.loop-member-test.true
    (omega (arith, members_within (view b) (stands b c.requires.table).1 k c.args.group c.requires.inside, end))
    (ap (matches k) (sym c.name_of.ensures) ∙ sym c.matches.ensures ∙ c.if-matches.true)
    )

pub loop-member-preserved : goal.loop-member-preserved
loop-member-preserved c =
    let b = c.args.table.now in
    let k = c.args.self in
    let start = rw c.groups.ensures at c.run-run.ensures.start in
    let end = rw c.groups.ensures at c.run-run.ensures.end in
    one_searched
    (matches k)
    (policy.name (view b) members)
    (members_run (row (view b) (groups k) c.args.group))
    ((view b).records members)
    []
    c.loop-member.invariant
    (omega (arith, start))
    end
    c.loop-member-test.true
    (omega (arith, members_within (view b) (stands b c.requires.table).1 k c.args.group c.requires.inside, end))
    (ap (matches k) (sym c.name_of.ensures) ∙ sym c.matches.ensures ∙ c.if-matches.false)
