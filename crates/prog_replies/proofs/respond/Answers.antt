use Rattle.std.proofs.Common.{refl, arith, rules, subst, take_all}
use Rattle.std.specs.Prelude.{List, ℕ}
use Rattle.prog_replies.specs.Pieces.{Answers}
use Rattle.prog_replies.specs.laws.Steps.{line_span, at_start, answers_in}
use Rattle.prog_replies.specs.laws.History.{responds}
use Rattle.prog_replies.proofs.respond.Goals as goal

pub loop-at-init : goal.loop-at-init
loop-at-init c = record {
  held_lent = refl;
  lent = refl;
  size = c.requires.1.size;
  within = omega arith;
  answers = λ h a.
      rw (c.new-w.ensures.start)
      (at_start c.args.table.now h c.args.piece.now c.new-w.result.out.now c.args.held.now.out.now c.args.held.now.at a);
}

pub take_line-requires : goal.take_line-requires
take_line-requires c = (
  c.requires.0,
  line_span c.args.piece.now c.loop-at.at c.find-end.result (omega arith) c.find-end.ensures.first c.find-end.ensures.within,
  c.loop-at.invariant.size,
)

pub returns-clause-answered : goal.returns-clause-answered
returns-clause-answered c =
    let inside = c.loop-at.held.within in
    let size = c.loop-at.invariant.size in
    responds
    c.requires.1
    c.requires.2
    size
    (omega arith)
    (λ h a.
    answers_in
    (subst
    (λ (s : List ℕ). Answers c.args.table.now h s c.new-w.result.out.now c.loop-at.w.out.now c.loop-at.w.at c.loop-at.held.out.now c.loop-at.held.at)
    (take_all c.loop-at.at c.args.piece.now (omega arith))
    (c.loop-at.invariant.answers h a))
    c.new-w.ensures.bytes
    (search rules))
