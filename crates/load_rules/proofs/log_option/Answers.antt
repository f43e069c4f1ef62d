use Rattle.std.proofs.Common.{refl, [], ◌∷◌}
use Rattle.spec_token.specs.declared.Kind.TheVariants.{Comma, CloseParen}
use Rattle.spec_grammar.specs.declared.Role.TheVariants.{LogOption}
use Rattle.spec_grammar.specs.Reader.{string, no_role}
use Rattle.load_elements.specs.laws.Tokens.{then, stops, at, unless}
use Rattle.load_rules.proofs.log_option.Goals as goal

pub returns-then-not-next_is : goal.returns-then-not-next_is
returns-then-not-next_is c = unless Comma c.next_is.ensures c.if-not-next_is.true c.expect.ensures (λ k. (refl, refl, refl, refl, refl, refl, refl, refl, refl, refl, refl, refl, refl, tt, refl))

pub returns-in_err-expect : goal.returns-in_err-expect
returns-in_err-expect c = at Comma c.next_is.ensures c.if-not-next_is.false (stops (string LogOption ∷ no_role CloseParen ∷ []) c.in_err-expect.ensures c.from_residual.ensures.1) (λ k. refl)

pub returns-in_err-expect-2 : goal.returns-in_err-expect-2
returns-in_err-expect-2 c = at Comma c.next_is.ensures c.if-not-next_is.false (then c.in_ok-expect.ensures (stops (no_role CloseParen ∷ []) c.in_err-expect-2.ensures c.from_residual-in_err-expect-2.ensures.1)) (λ k. refl)

pub returns : goal.returns
returns c = at Comma c.next_is.ensures c.if-not-next_is.false (then c.in_ok-expect.ensures (then c.in_ok-expect-2.ensures c.expect-4.ensures)) (λ k. refl)
