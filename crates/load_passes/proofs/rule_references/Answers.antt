use Rattle.std.proofs.Common.{arith}
use Rattle.spec_grammar.specs.declared.Role.TheVariants.{UagNamed, HagNamed}
use Rattle.load_records.specs.laws.Bounds.{bounded_more}
use Rattle.load_passes.proofs.Rules.{rule_start, rule_passed}
use Rattle.load_passes.proofs.rule_references.Goals as goal

pub pass-p-requires-clause-start : goal.pass-p-requires-clause-start
pass-p-requires-clause-start g c =
    rule_start c.args.tokens.now c.requires.here c.next-e.ensures (g.met.E.Alone.itself c.args.users.now UagNamed)
    (record { some = omega arith; known = omega arith })
    (bounded_more (omega arith) c.requires.bounded)

pub pass-requires-clause-start : goal.pass-requires-clause-start
pass-requires-clause-start g c =
    rule_start c.args.tokens.now c.requires.here c.next-e.ensures (g.met.E.Alone.itself c.args.hosts.now HagNamed)
    (record { some = omega arith; known = omega arith })
    (bounded_more (omega arith) (c.pass-p.ensures.bounded _ c.requires.bounded))

pub returns : goal.returns
returns g c =
    let a = c.args in
    let e = g.E.Entry in
    rule_passed a.tokens.now c.requires.here c.next-e.ensures e.work (e.names a.users.now) (e.names a.hosts.now)
    (g.met.E.Alone.itself a.users.now UagNamed)
    (g.met.E.Alone.itself a.hosts.now HagNamed)
    c.pass-p.ensures c.pass.ensures
