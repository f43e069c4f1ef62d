use Rattle.std.proofs.Common.{arith}
use Rattle.spec_grammar.specs.Codes.{role_number}
use Rattle.load_tokens.specs.Views.{roles}
use Rattle.load_tokens.specs.laws.Same.{says, says_other}
use Rattle.load_spans.specs.laws.Roles.{tally_hit, tally_miss, tally_none}
use Rattle.load_flags.proofs.count.Goals as goal
use Rattle.load_flags.proofs.count.Goals.{then-eq, else-eq}

pub loop-i-preserved : goal.loop-i-preserved
loop-i-preserved c =
    let ts = c.args.t.now.list.now in
    let i = c.loop-i.i in
    let q = role_number c.args.role in
    elim c.if-eq.branch [
      | then-eq w ↦ omega (arith, c.loop-i.invariant.0, tally_hit q (roles ts) i c.args.to c.loop-i-test.true (says ts i c.args.role c.eq.ensures w.if-eq.true))
      | else-eq w ↦ omega (arith, c.loop-i.invariant.0, tally_miss q (roles ts) i c.args.to c.loop-i-test.true (says_other ts i c.args.role c.eq.ensures w.if-eq.false))
    ]

pub returns : goal.returns
returns c = omega (arith, c.loop-i.invariant.0, tally_none (role_number c.args.role) (roles c.args.t.now.list.now) c.loop-i.i c.args.to c.loop-i-test.false)
