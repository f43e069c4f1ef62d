use Rattle.std.proofs.Common.{refl}
use Rattle.spec_token.specs.declared.Kind.TheVariants.{CloseParen}
use Rattle.spec_grammar.specs.Reader.{more_until}
use Rattle.load_elements.specs.laws.Tokens.{then, stops, unless, at}
use Rattle.load_elements.proofs.Parser.arguments.Goals as goal

pub returns-then-next_is : goal.returns-then-next_is
returns-then-next_is c = at CloseParen c.next_is.ensures c.if-next_is.true c.expect.ensures (λ k. refl)

pub returns-in_err-element : goal.returns-in_err-element
returns-in_err-element c = unless CloseParen c.next_is.ensures c.if-next_is.false (stops (more_until CloseParen) c.in_err-element.ensures c.from_residual.ensures.1)
    (λ k. (refl, refl, refl, refl, refl, refl, refl, refl, refl, refl, tt, refl, refl, refl, refl))

pub returns : goal.returns
returns c = unless CloseParen c.next_is.ensures c.if-next_is.false (then c.in_ok-element.ensures c.list_rest.ensures)
    (λ k. (refl, refl, refl, refl, refl, refl, refl, refl, refl, refl, tt, refl, refl, refl, refl))
