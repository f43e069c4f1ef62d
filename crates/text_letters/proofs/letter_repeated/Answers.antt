use native.Mathlib.Omega.{arith}
use Rattle.text_letters.specs.laws.Letters.{single_first, single_hit, single_turn}
use Rattle.text_letters.proofs.letter_repeated.Goals as goal

pub loop-i-init : goal.loop-i-init
loop-i-init c = rw c.into_iter-i-iterator.ensures.into_iter_gives (single_first c.args.table.now c.args.group c.requires c.run-i-items.ensures.start c.run-i-items.ensures.end)

pub letter_at-l-requires : goal.letter_at-l-requires
letter_at-l-requires c = record { table = c.requires.table; inside = omega (arith, c.loop-i.invariant.inside, c.in-Some.ensures.steps.1.0, c.in-Some.ensures.steps.1.1) }

pub returns-then-seen-l : goal.returns-then-seen-l
returns-then-seen-l c = single_hit c.args.table.now c.args.group c.in-Some.ensures.steps c.letter_at-l.ensures.0 c.loop-i.invariant c.if-seen-l.true

pub loop-i-preserved : goal.loop-i-preserved
loop-i-preserved c = single_turn c.args.table.now c.args.group c.in-Some.ensures.steps c.letter_at-l.ensures.0 c.loop-i.invariant c.letter_at-l.ensures.1 c.if-seen-l.false
