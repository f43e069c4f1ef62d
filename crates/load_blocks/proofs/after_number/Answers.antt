use Rattle.std.proofs.Common.{refl, ◌∷◌}
use Rattle.spec_token.specs.declared.Kind.TheVariants.{CloseBrace}
use Rattle.spec_grammar.specs.Reader.{once, element, more_until, behind}
use Rattle.load_elements.specs.laws.Stacks.{next_is}
use Rattle.load_elements.specs.laws.Tokens.{then, stops, at, unless, all_read, begins}
use Rattle.load_blocks.specs.laws.Blocks.{opens_stops}
use Rattle.load_blocks.proofs.after_number.Goals as goal

pub returns-in_err-expect : goal.returns-in_err-expect
returns-in_err-expect c = opens_stops (λ d. at CloseBrace c.next_is.ensures c.if-next_is.true (stops (behind d) c.in_err-expect.ensures refl) (λ k. refl)) c.from_residual.ensures.1

pub returns-then-next_is : goal.returns-then-next_is
returns-then-next_is c = record { at_depth = λ d. begins _ (next_is CloseBrace _ c.next_is.ensures c.if-next_is.true) c.in_ok-expect.ensures (λ k. refl) }

pub returns-in_err-expect-2 : goal.returns-in_err-expect-2
returns-in_err-expect-2 c = opens_stops (λ d. unless CloseBrace c.next_is.ensures c.if-next_is.false (stops (once element ∷ more_until CloseBrace) c.in_err-expect-2.ensures refl) (λ k. (refl, refl, refl, refl, refl, refl, refl, refl, refl, refl, refl, refl, tt, refl, refl))) c.from_residual-in_err-expect-2.ensures.1

pub returns-in_err-list : goal.returns-in_err-list
returns-in_err-list c = opens_stops (λ d. unless CloseBrace c.next_is.ensures c.if-next_is.false (then c.in_ok-expect-2.ensures c.in_err-list.ensures) (λ k. (refl, refl, refl, refl, refl, refl, refl, refl, refl, refl, refl, refl, tt, refl, refl))) c.from_residual-in_err-list.ensures.1

pub returns : goal.returns
returns c = record { at_depth = λ d. all_read (unless CloseBrace c.next_is.ensures c.if-next_is.false (then c.in_ok-expect-2.ensures c.in_ok-list.ensures) (λ k. (refl, refl, refl, refl, refl, refl, refl, refl, refl, refl, refl, refl, tt, refl, refl))) }
