use Rattle.std.proofs.Common.{◌-◌, arith}
use Rattle.spec_grammar.specs.Codes.{role_number}
use Rattle.load_tokens.specs.Views.{roles}
use Rattle.load_tokens.specs.laws.Same.{says, says_other}
use Rattle.load_spans.specs.laws.Roles.{gap_first, gap_second, gap_on, gap_none, gap_bound}
use Rattle.load_flags.proofs.next.Goals as goal
use Rattle.load_flags.proofs.next.Goals.{then-eq-via-then-eq, then-eq-via-else-eq+then-eq-2}

pub returns-then-eq : goal.returns-then-eq
returns-then-eq c =
    let ts = c.args.t.now.list.now in
    let i = c.loop-i.i in
    let a = role_number c.args.a in
    let b = role_number c.args.b in
    elim c.then-eq.branch [
      | then-eq-via-then-eq w ↦ omega (arith, c.loop-i.invariant, gap_first a b (roles ts) i c.args.to c.loop-i-test.true (says ts i c.args.a c.eq.ensures w.if-eq.true))
      | then-eq-via-else-eq+then-eq-2 w ↦ omega (arith, c.loop-i.invariant, gap_second a b (roles ts) i c.args.to c.loop-i-test.true (says ts i c.args.b w.eq-else-eq.ensures w.if-eq-2.true))
    ]

pub loop-i-preserved : goal.loop-i-preserved
loop-i-preserved c =
    let ts = c.args.t.now.list.now in
    let i = c.loop-i.i in
    omega (
      arith,
      c.loop-i.invariant,
      gap_on (role_number c.args.a) (role_number c.args.b) (roles ts) i c.args.to c.loop-i-test.true
          (says_other ts i c.args.a c.eq.ensures c.if-eq.false)
          (says_other ts i c.args.b c.eq-else-eq.ensures c.if-eq-2.false),
    )

pub returns : goal.returns
returns c =
    let a = role_number c.args.a in
    let b = role_number c.args.b in
    let says = roles c.args.t.now.list.now in
    omega (
      arith,
      c.loop-i.invariant,
      gap_none a b says c.loop-i.i c.args.to c.loop-i-test.false,
      gap_bound a b says c.args.from (c.args.to - c.args.from),
      c.max.ensures,
    )
