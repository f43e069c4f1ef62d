use Rattle.std.proofs.Common.{refl, ◌∷◌}
use Rattle.spec_grammar.specs.Reader.{once, often, asg_item, asg_block}
use Rattle.load_elements.specs.laws.Tokens.{then, stops}
use Rattle.load_strings.specs.laws.Enclosed.{braces_come, no_braces_come}
use Rattle.load_parse.proofs.asg.Goals as goal

pub returns-in_err-named : goal.returns-in_err-named
returns-in_err-named c = stops _ c.in_err-named.ensures c.from_residual.ensures.1

pub returns-then-not-next_is : goal.returns-then-not-next_is
returns-then-not-next_is c = then c.in_ok-named.ensures (no_braces_come asg_block (λ k. once asg_item ∷ often asg_item ∷ k) refl c.next_is.ensures c.if-not-next_is.true)

pub returns : goal.returns
returns c = then c.in_ok-named.ensures (braces_come asg_block (λ k. once asg_item ∷ often asg_item ∷ k) refl c.next_is.ensures c.if-not-next_is.false c.asg_block.ensures)
