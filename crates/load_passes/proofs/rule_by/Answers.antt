use Rattle.std.proofs.Common.{arith}
use Rattle.load_records.specs.laws.Bounds.{bounded_more}
use Rattle.load_passes.proofs.Rules.{rule_start, rule_passed}
use Rattle.load_passes.proofs.rule_by.Goals as goal

pub pass-behind-requires-clause-start : goal.pass-behind-requires-clause-start
pass-behind-requires-clause-start g c =
    rule_start c.args.tokens.now c.requires.here c.next-end.ensures c.requires.parts.0 (record { some = omega arith; known = omega arith })
    (bounded_more (omega arith) c.requires.bounded)

pub pass-requires-clause-start : goal.pass-requires-clause-start
pass-requires-clause-start g c =
    rule_start c.args.tokens.now c.requires.here c.next-end.ensures c.requires.parts.1 (record { some = omega arith; known = omega arith })
    (bounded_more (omega arith) (c.pass-behind.ensures.bounded _ c.requires.bounded))

pub returns : goal.returns
returns g c =
    let a = c.args in
    let e = g.E.Entry in
    rule_passed a.tokens.now c.requires.here c.next-end.ensures e.work (e.names a.users.now) (e.names a.hosts.now) c.requires.parts.0 c.requires.parts.1
    c.pass-behind.ensures c.pass.ensures
