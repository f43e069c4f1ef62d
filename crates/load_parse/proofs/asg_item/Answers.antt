use Rattle.std.proofs.Common.{refl}
use Rattle.spec_token.specs.declared.Kind.TheVariants.{Inp}
use Rattle.load_elements.specs.laws.Tokens.{at, unless}
use Rattle.load_parse.proofs.asg_item.Goals as goal

pub returns-then-next_is : goal.returns-then-next_is
returns-then-next_is c = at Inp c.next_is.ensures c.if-next_is.true c.named.ensures (λ k. refl)

pub returns : goal.returns
returns c = unless Inp c.next_is.ensures c.if-next_is.false c.rule.ensures (λ k. (refl, refl, refl, refl, refl, tt, refl, refl, refl, refl, refl, refl, refl, refl, refl))
