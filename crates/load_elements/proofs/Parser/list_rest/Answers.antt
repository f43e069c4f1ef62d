use Rattle.std.proofs.Common.{arith, ◌∙◌, refl, ◌∷◌}
use Rattle.spec_token.specs.declared.Kind.TheVariants.{Comma}
use Rattle.spec_grammar.specs.Reader.{once, element, more_until}
use Rattle.load_elements.specs.laws.Stacks.{next_is}
use Rattle.load_elements.specs.laws.Tokens.{then, stops, unless, at, not_begun, goes_on, ends}
use Rattle.load_elements.proofs.Parser.list_rest.Goals as goal

pub loop-self-init : goal.loop-self-init
loop-self-init c = not_begun _ _

pub returns-in_err-expect : goal.returns-in_err-expect
returns-in_err-expect c = ends c.loop-self.invariant (at Comma c.next_is.ensures c.loop-self-test.true (stops (once element ∷ more_until c.args.close) c.in_err-expect.ensures c.from_residual.ensures.1) (λ k. refl))

pub returns-in_err-element : goal.returns-in_err-element
returns-in_err-element c = ends c.loop-self.invariant (at Comma c.next_is.ensures c.loop-self-test.true (then c.in_ok-expect.ensures (stops (more_until c.args.close) c.in_err-element.ensures c.from_residual-in_err-element.ensures.1)) (λ k. refl))

pub loop-self-smaller : goal.loop-self-smaller
loop-self-smaller c = omega (arith, c.in_ok-expect.ensures.fewer, c.in_ok-element.ensures.fewer)

pub loop-self-preserved : goal.loop-self-preserved
loop-self-preserved c = goes_on c.loop-self.invariant _ (next_is Comma _ c.next_is.ensures c.loop-self-test.true) (then c.in_ok-expect.ensures c.in_ok-element.ensures) (λ k. refl)

pub returns : goal.returns
returns c = ends c.loop-self.invariant (unless Comma c.next_is.ensures c.loop-self-test.false c.expect-2.ensures (λ k. (refl, refl, refl, refl, refl, refl, refl, refl, refl, refl, refl, refl, refl, tt, refl)))
