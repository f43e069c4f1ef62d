use Rattle.std.proofs.Common.{sym, ◌∙◌, arith, ◌<◌, []}
use Rattle.std.proofs.lemmas.Bool.Decides.{nat_tests}
use Rattle.spec_lists.specs.Select.{any}
use Rattle.spec_file.specs.Limit.{rules, references}
use Rattle.spec_table.specs.View.{view}
use Rattle.spec_table.specs.Policy.{row, referred}
use Rattle.ask_member.specs.Members.{groups, matches, references_run}
use Rattle.ask_member.specs.laws.Members.{references_inside, refers, belongs_some}
use Rattle.ask_member.specs.laws.Walk.{one_found, one_searched, all_searched}
use Rattle.ask_member.proofs.Name.has_group.Goals as goal

pub is_referred-requires : goal.is_referred-requires
is_referred-requires c =
    let start = rw c.references_word.ensures at c.run-run.ensures.start in
    let end = rw c.references_word.ensures at c.run-run.ensures.end in
    refers c.args.table.now c.args.rule c.args.self c.requires c.loop-reference.reference (omega (arith, start)) (omega (arith, end))

pub returns-then-is_referred : goal.returns-then-is_referred
returns-then-is_referred c =
    let b = c.args.table.now in
    let k = c.args.self in
    let run = references_run k (row (view b) rules c.args.rule) in
    let start = rw c.references_word.ensures at c.run-run.ensures.start in
    let end = rw c.references_word.ensures at c.run-run.ensures.end in
    let inside = references_inside b c.args.rule k c.requires in
    sym (
    belongs_some (matches k) (referred (view b) (groups k)) run ((view b).records references) inside (omega (arith, start, end))
    ∙ one_found
    (λ m. any (matches k) m)
    (referred (view b) (groups k))
    run
    ((view b).records references)
    []
    c.loop-reference.invariant
    (omega (arith, start))
    end
    c.loop-reference-test.true
    (omega (arith, inside, end))
    (sym c.is_referred.ensures ∙ c.if-is_referred.true)
    )

pub loop-reference-preserved : goal.loop-reference-preserved
loop-reference-preserved c =
    let b = c.args.table.now in
    let k = c.args.self in
    let start = rw c.references_word.ensures at c.run-run.ensures.start in
    let end = rw c.references_word.ensures at c.run-run.ensures.end in
    one_searched
    (λ m. any (matches k) m)
    (referred (view b) (groups k))
    (references_run k (row (view b) rules c.args.rule))
    ((view b).records references)
    []
    c.loop-reference.invariant
    (omega (arith, start))
    end
    c.loop-reference-test.true
    (omega (arith, references_inside b c.args.rule k c.requires, end))
    (sym c.is_referred.ensures ∙ c.if-is_referred.false)

pub returns : goal.returns
returns c =
    let b = c.args.table.now in
    let k = c.args.self in
    let run = references_run k (row (view b) rules c.args.rule) in
    let start = rw c.references_word.ensures at c.run-run.ensures.start in
    let end = rw c.references_word.ensures at c.run-run.ensures.end in
    let full : c.run-run.result.start < c.run-run.result.end = grind (arith, nat_tests, c.is_empty.ensures, c.if-is_empty.false) in
    sym (
    belongs_some (matches k) (referred (view b) (groups k)) run ((view b).records references) (references_inside b c.args.rule k c.requires) (omega (arith, start, end, full))
    ∙ all_searched
    (λ m. any (matches k) m)
    (referred (view b) (groups k))
    run
    ((view b).records references)
    []
    c.loop-reference.invariant
    (omega (arith, start))
    end
    c.loop-reference-test.false
    )
