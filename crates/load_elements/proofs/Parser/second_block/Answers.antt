use Rattle.std.proofs.Common.{refl, ◌∷◌}
use Rattle.spec_token.specs.declared.Kind.TheVariants.{OpenBrace, CloseBrace, Comma}
use Rattle.spec_grammar.specs.Reader.{once, element, no_role, more_until}
use Rattle.load_elements.specs.laws.Tokens.{unread, no_promise, then, stops, unless, at}
use Rattle.load_elements.proofs.Parser.second_block.Goals as goal

pub returns-then-not-next_is : goal.returns-then-not-next_is
returns-then-not-next_is c = unless OpenBrace c.next_is.ensures c.if-not-next_is.true unread
    (λ k. (refl, refl, refl, refl, refl, refl, refl, refl, refl, refl, refl, tt, refl, refl, refl))

pub returns-in_err-expect : goal.returns-in_err-expect
returns-in_err-expect c = no_promise (at OpenBrace c.next_is.ensures c.if-not-next_is.false
    (stops (once element ∷ no_role Comma ∷ once element ∷ more_until CloseBrace) c.in_err-expect.ensures c.from_residual.ensures.1) (λ k. refl))

pub returns-in_err-element : goal.returns-in_err-element
returns-in_err-element c = no_promise (at OpenBrace c.next_is.ensures c.if-not-next_is.false
    (then c.in_ok-expect.ensures (stops (no_role Comma ∷ once element ∷ more_until CloseBrace) c.in_err-element.ensures c.from_residual-in_err-element.ensures.1)) (λ k. refl))

pub returns-in_err-expect-2 : goal.returns-in_err-expect-2
returns-in_err-expect-2 c = no_promise (at OpenBrace c.next_is.ensures c.if-not-next_is.false
    (then c.in_ok-expect.ensures (then c.in_ok-element.ensures (stops (once element ∷ more_until CloseBrace) c.in_err-expect-2.ensures c.from_residual-in_err-expect-2.ensures.1))) (λ k. refl))

pub returns : goal.returns
returns c = no_promise (at OpenBrace c.next_is.ensures c.if-not-next_is.false
    (then c.in_ok-expect.ensures (then c.in_ok-element.ensures (then c.in_ok-expect-2.ensures c.list.ensures))) (λ k. refl))
