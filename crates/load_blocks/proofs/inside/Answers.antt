use Rattle.std.specs.Prelude.{not, [], ◌∷◌}
use Rattle.std.proofs.Common.{refl, sym, ap, ◌∙◌}
use Rattle.spec_grammar.specs.Reader.{once, block_name, block_number}
use Rattle.load_elements.specs.laws.Tokens.{stops, when}
use Rattle.load_blocks.specs.Blocks.{is_number}
use Rattle.load_blocks.specs.laws.Blocks.{opens_stops, opens_when, opens_behind}
use Rattle.load_blocks.proofs.inside.Goals as goal

pub returns-in_err-element : goal.returns-in_err-element
returns-in_err-element c = opens_stops (λ d. when is_number c.kind.ensures (sym c.is_number.ensures ∙ c.if-is_number.true) (stops (once (block_number d) ∷ []) c.in_err-element.ensures refl) (λ k. (tt, tt, tt, tt, tt, tt, refl, refl, tt, tt, tt, tt, tt, tt, tt))) c.from_residual.ensures.1

pub returns-then-is_number : goal.returns-then-is_number
returns-then-is_number c = opens_when is_number c.kind.ensures (sym c.is_number.ensures ∙ c.if-is_number.true) (opens_behind c.in_ok-element.ensures c.after_number.ensures) (λ d k. (tt, tt, tt, tt, tt, tt, refl, refl, tt, tt, tt, tt, tt, tt, tt))

pub returns-in_err-element-2 : goal.returns-in_err-element-2
returns-in_err-element-2 c = opens_stops (λ d. when (λ n. not (is_number n)) c.kind.ensures (ap not (sym c.is_number.ensures ∙ c.if-is_number.false)) (stops (once (block_name d) ∷ []) c.in_err-element-2.ensures refl) (λ k. (refl, refl, refl, refl, refl, refl, tt, tt, refl, refl, refl, refl, refl, refl, refl))) c.from_residual-in_err-element-2.ensures.1

pub returns : goal.returns
returns c = opens_when (λ n. not (is_number n)) c.kind.ensures (ap not (sym c.is_number.ensures ∙ c.if-is_number.false)) (opens_behind c.in_ok-element-2.ensures c.after_name.ensures) (λ d k. (refl, refl, refl, refl, refl, refl, tt, tt, refl, refl, refl, refl, refl, refl, refl))
