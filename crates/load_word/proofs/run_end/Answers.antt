use Rattle.spec_token.proofs.laws.Spans.{start, turn, stopped, ended}
use Rattle.std.proofs.Common.{◌≡◌, length, arith, subst, sym, ◌∙◌}
use Rattle.spec_token.specs.Spans.{Span}
use Rattle.load_word.specs.Class.{belongs}
use Rattle.load_word.proofs.run_end.Goals as goal

pub loop-i-init : goal.loop-i-init
loop-i-init c = start _ c.requires

pub loop-i-preserved : goal.loop-i-preserved
loop-i-preserved c = turn _ c.loop-i.invariant c.loop-i-test.true (sym c.belongs.ensures ∙ c.if-not-belongs.false)

pub returns-then-not-belongs : goal.returns-then-not-belongs
returns-then-not-belongs c = stopped _ c.loop-i.invariant c.loop-i-test.true (sym c.belongs.ensures ∙ c.if-not-belongs.true)

pub returns : goal.returns
returns c =
    let e : c.loop-i.i ≡ length c.args.s.now = omega arith in
    subst (Span (belongs c.args.class) c.args.s.now c.args.from) e (ended _ c.loop-i.invariant c.loop-i-test.false)
