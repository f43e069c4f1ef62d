use Rattle.std.proofs.Common.{arith}
use Rattle.load_tokens.specs.laws.Same.{says, says_other}
use Rattle.load_spans.specs.laws.Roles.{spans_fit_less}
use Rattle.load_spans.specs.laws.Tokens.{fits}
use Rattle.load_records.specs.laws.Bounds.{bounded_more}
use Rattle.load_records.specs.laws.Steps.{step_at}
use Rattle.load_passes.specs.laws.Loops.{pass_end, pass_hit, pass_miss, pass_start}
use Rattle.load_passes.specs.laws.Passes.{passed}
use Rattle.load_passes.proofs.pass.Goals as goal
use Rattle.load_passes.proofs.pass.Goals.{then-eq, else-eq}

pub loop-i-init : goal.loop-i-init
loop-i-init g c = pass_start _ _ _ _ _ _ _ _ _ _ _ _ c.requires.start.bounded

pub put-p-requires-clause-ready : goal.put-p-requires-clause-ready
put-p-requires-clause-ready g c =
    let pre = c.requires.start in
    record {
      within = pre.within;
      here = c.loop-i-test.true;
      head = pre.head;
      part = pre.part;
      bounded = bounded_more (omega (arith, pre.within, c.args.tokens.now.few)) c.loop-i.invariant.bounded;
    }

pub loop-i-preserved : goal.loop-i-preserved
loop-i-preserved g c =
    let a = c.args in
    let e = g.E.Entry in
    let t = a.tokens.now in
    let i = c.loop-i.i in
    let h = c.loop-i.invariant in
    let pre = c.requires.start in
    let go = c.loop-i-test.true in
    elim c.if-eq.branch [
      | then-eq w ↦
          rw (w.lent-is, w.p-is)
          (pass_hit _ _ _ _ _ _ _ _ _ _ _ _ pre.head (spans_fit_less pre.within (fits t)) go (says t.list.now i a.role c.eq.ensures w.if-eq.true) h
          (step_at e.work a.role (e.part a.entry.now a.role) (e.names a.entry.now) t i a.to w.put-p.ensures))
      | else-eq w ↦ rw (w.lent-is, w.p-is) (pass_miss _ _ _ _ _ _ _ _ _ _ _ _ pre.head go (says_other t.list.now i a.role c.eq.ensures w.if-eq.false) h)
    ]

pub returns : goal.returns
returns g c =
    let a = c.args in
    let e = g.E.Entry in
    passed e.work a.role (e.part a.entry.now a.role) (e.names a.entry.now) a.tokens.now a.from a.to c.requires.start.within (pass_end _ _ _ _ _ _ _ _ _ _ _ _ c.requires.start.head c.loop-i-test.false c.loop-i.invariant)
