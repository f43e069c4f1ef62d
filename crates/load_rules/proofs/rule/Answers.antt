use Rattle.std.proofs.Common.{refl, ◌∷◌}
use Rattle.spec_grammar.specs.Reader.{once, often, rule_item, rule_block}
use Rattle.load_elements.specs.laws.Tokens.{then, stops}
use Rattle.load_strings.specs.laws.Enclosed.{braces_come, no_braces_come}
use Rattle.load_rules.proofs.rule.Goals as goal

pub returns-in_err-rule_head : goal.returns-in_err-rule_head
returns-in_err-rule_head c = stops _ c.in_err-rule_head.ensures c.from_residual.ensures.1

pub returns-then-not-next_is : goal.returns-then-not-next_is
returns-then-not-next_is c = then c.in_ok-rule_head.ensures (no_braces_come rule_block (λ k. once rule_item ∷ often rule_item ∷ k) refl c.next_is.ensures c.if-not-next_is.true)

pub returns : goal.returns
returns c = then c.in_ok-rule_head.ensures (braces_come rule_block (λ k. once rule_item ∷ often rule_item ∷ k) refl c.next_is.ensures c.if-not-next_is.false c.rule_block.ensures)
