use Rattle.std.proofs.Common.{refl, ◌∙◌, sym, arith, ◌≤◌, length, take}
use Rattle.std.proofs.Math.Seq.{length-take-le}
use Rattle.spec_grammar.specs.Codes.{role_number}
use Rattle.load_tokens.specs.Views.{starts, ends, roles}
use Rattle.load_tokens.specs.laws.Same.{says, says_other}
use Rattle.load_spans.specs.Spans.{text_of}
use Rattle.load_spans.specs.laws.Tokens.{spot_some, spot_missing}
use Rattle.load_repeats.specs.laws.Seen.{seen_first, seen_found, seen_new, seen_reset, seen_on, seen_end, again_here, again_none}
use Rattle.load_repeats.proofs.repeated.Goals as goal
use Rattle.load_repeats.proofs.repeated.Goals.{then-eq+else-is_some, else-eq+then-eq-2, else-eq+else-eq-2}

pub loop-i-init : goal.loop-i-init
loop-i-init c =
    let ts = c.args.t.now.list.now in
    seen_first c.args.t.now.text.now (starts ts) (ends ts) (roles ts) (role_number c.args.role) (role_number c.args.stop) (length ts) (length c.args.seen.now)
    c.args.seen.now refl

pub returns-then-is_some : goal.returns-then-is_some
returns-then-is_some c =
    let s = c.args.t.now.text.now in
    let ts = c.args.t.now.list.now in
    let i = c.loop-i.i in
    let k = c.loop-i.k in
    let at = text_of s ts in
    let room : k ≤ length c.loop-i.seen = omega (arith, c.loop-i.invariant.few, c.loop-i.invariant.room, c.requires.room) in
    again_here s ts c.args.role c.args.stop c.loop-i-test.true
    (seen_found s (starts ts) (ends ts) (roles ts) (role_number c.args.role) (role_number c.args.stop) (length ts) (length c.args.seen.now)
    c.requires.role_code.0 c.requires.role_code.1 c.loop-i-test.true room
    (says ts i c.args.role c.eq.ensures c.if-eq.true)
    (omega (
      arith,
      spot_some at (at i) (take k c.loop-i.seen) c.position.ensures (sym c.is_some.ensures ∙ c.if-is_some.true),
      length-take-le k c.loop-i.seen room,
    ))
    c.loop-i.invariant)

pub loop-i-preserved : goal.loop-i-preserved
loop-i-preserved c =
    let s = c.args.t.now.text.now in
    let ts = c.args.t.now.list.now in
    let i = c.loop-i.i in
    let k = c.loop-i.k in
    let q = role_number c.args.role in
    let stop = role_number c.args.stop in
    let at = text_of s ts in
    let room : k ≤ length c.loop-i.seen = omega (arith, c.loop-i.invariant.few, c.loop-i.invariant.room, c.requires.room) in
    elim c.if-eq.branch [
      | then-eq+else-is_some w ↦
          rw (w.seen-is, w.k-is)
          (seen_new s (starts ts) (ends ts) (roles ts) q stop (length ts) (length c.args.seen.now) c.requires.role_code.0 c.requires.role_code.1 c.loop-i-test.true
          (omega (arith, c.loop-i.invariant.few, c.loop-i.invariant.room, c.requires.room))
          (says ts i c.args.role c.eq.ensures w.if-eq.true)
          (omega (
            arith,
            spot_missing at (at i) (take k c.loop-i.seen) w.position.ensures (sym w.is_some.ensures ∙ w.if-is_some.false),
            length-take-le k c.loop-i.seen room,
          ))
          refl c.loop-i.invariant)
      | else-eq+then-eq-2 w ↦
          rw (w.seen-is, w.k-is)
          (seen_reset s (starts ts) (ends ts) (roles ts) q stop (length ts) (length c.args.seen.now) c.requires.role_code.0 c.requires.role_code.1 c.loop-i-test.true
          (says_other ts i c.args.role c.eq.ensures w.if-eq.false) (says ts i c.args.stop w.eq-else-eq.ensures w.if-eq-2.true) c.loop-i.invariant)
      | else-eq+else-eq-2 w ↦
          rw (w.seen-is, w.k-is)
          (seen_on s (starts ts) (ends ts) (roles ts) q stop (length ts) (length c.args.seen.now) c.requires.role_code.0 c.requires.role_code.1 c.loop-i-test.true
          (says_other ts i c.args.role c.eq.ensures w.if-eq.false) (says_other ts i c.args.stop w.eq-else-eq.ensures w.if-eq-2.false) c.loop-i.invariant)
    ]

pub returns : goal.returns
returns c =
    let s = c.args.t.now.text.now in
    let ts = c.args.t.now.list.now in
    again_none s ts c.args.role c.args.stop c.loop-i-test.false
    (seen_end s (starts ts) (ends ts) (roles ts) (role_number c.args.role) (role_number c.args.stop) (length ts) (length c.args.seen.now) c.loop-i-test.false
    c.loop-i.invariant)
