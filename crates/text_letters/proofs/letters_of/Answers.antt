use native.Mathlib.Omega.{arith}
use Rattle.text_letters.specs.laws.Letters.{gathers_first, gathers_turn}
use Rattle.text_letters.proofs.letters_of.Goals as goal

pub loop-i-init : goal.loop-i-init
loop-i-init c = rw c.into_iter-i-iterator.ensures.into_iter_gives (gathers_first c.args.table.now c.args.group c.requires c.run-i-items.ensures.start c.run-i-items.ensures.end)

pub letter_at-requires : goal.letter_at-requires
letter_at-requires c = record { table = c.requires.table; inside = omega (arith, c.loop-i.invariant.inside, c.in-Some.ensures.steps.1.0, c.in-Some.ensures.steps.1.1) }

pub loop-i-preserved : goal.loop-i-preserved
loop-i-preserved c = gathers_turn c.args.table.now c.args.group c.in-Some.ensures.steps c.letter_at.ensures.0 c.letter_at.ensures.1 c.loop-i.invariant
