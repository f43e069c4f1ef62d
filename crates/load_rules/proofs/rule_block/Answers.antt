use Rattle.std.proofs.Common.{refl, [], ◌∷◌}
use Rattle.spec_token.specs.declared.Kind.TheVariants.{CloseBrace}
use Rattle.spec_grammar.specs.Reader.{often, rule_item, no_role}
use Rattle.load_elements.specs.laws.Tokens.{then, stops, at, unless, not_begun, goes_on_unless, ends}
use Rattle.load_rules.proofs.rule_block.Goals as goal

pub returns-in_err-expect : goal.returns-in_err-expect
returns-in_err-expect c = stops _ c.in_err-expect.ensures c.from_residual.ensures.1

pub returns-in_err-rule_item : goal.returns-in_err-rule_item
returns-in_err-rule_item c = then c.in_ok-expect.ensures (stops _ c.in_err-rule_item.ensures c.from_residual-in_err-rule_item.ensures.1)

pub loop-p-init : goal.loop-p-init
loop-p-init c = not_begun _ _

pub loop-p-preserved : goal.loop-p-preserved
loop-p-preserved c = goes_on_unless c.loop-p.invariant CloseBrace c.next_is.ensures c.loop-p-test.true c.in_ok-rule_item-2.ensures
    (λ k. (refl, refl, refl, refl, refl, refl, refl, refl, refl, refl, refl, refl, tt, refl, refl))

pub returns-in_err-rule_item-2 : goal.returns-in_err-rule_item-2
returns-in_err-rule_item-2 c = then c.in_ok-expect.ensures (then c.in_ok-rule_item.ensures (ends c.loop-p.invariant (unless CloseBrace c.next_is.ensures c.loop-p-test.true (stops (often rule_item ∷ no_role CloseBrace ∷ []) c.in_err-rule_item-2.ensures c.from_residual-in_err-rule_item-2.ensures.1)
    (λ k. (refl, refl, refl, refl, refl, refl, refl, refl, refl, refl, refl, refl, tt, refl, refl)))))

pub returns : goal.returns
returns c = then c.in_ok-expect.ensures (then c.in_ok-rule_item.ensures (ends c.loop-p.invariant (at CloseBrace c.next_is.ensures c.loop-p-test.false c.expect-2.ensures (λ k. refl))))
