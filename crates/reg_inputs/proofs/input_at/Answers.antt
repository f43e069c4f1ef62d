use Rattle.std.specs.Prelude.{◌≡◌, ℕ, Float, Option, get_or}
use Rattle.std.specs.Option.{unwrap_or}
use Rattle.std.specs.Float.{nan}
use Rattle.std.specs.Float.Ieee.{of_bits}
use Rattle.std.proofs.Common.{sym, ap, ◌∙◌, arith}
use Rattle.spec_calc.specs.Value.{finite}
use Rattle.reg_inputs.specs.laws.Inputs.{heard_value, heard_nothing, good_value, good_nothing}
use Rattle.reg_inputs.proofs.input_at.Goals as goal

pub returns-then-state-ne2 : goal.returns-then-state-ne2
returns-then-state-ne2 c = let a = c.args in
    let state : c.unwrap_or-state.result ≡ get_or a.states.now a.k 0 =
    c.unwrap_or-state.ensures ∙ ap (λ (o : Option ℕ). unwrap_or o 0) c.copied.ensures ∙ c.get.ensures.lookup.4 (omega arith) 0 in
    (heard_nothing _ _ (λ e. c.if-state-ne2.true (state ∙ e)), good_nothing _ _ (λ e. c.if-state-ne2.true (state ∙ e)))

pub returns : goal.returns
unfolding of_bits
returns c = let a = c.args in
    let state : c.unwrap_or-state.result ≡ get_or a.states.now a.k 0 =
    c.unwrap_or-state.ensures ∙ ap (λ (o : Option ℕ). unwrap_or o 0) c.copied.ensures ∙ c.get.ensures.lookup.4 (omega arith) 0 in
    let value : c.unwrap_or-value.result ≡ get_or a.values.now a.k nan =
    c.unwrap_or-value.ensures ∙ ap (λ (o : Option Float). unwrap_or o nan) c.copied-2.ensures ∙ c.get-2.ensures.lookup.4 (omega arith) nan in
    let two = sym state ∙ c.if-state-ne2.false in
    (value ∙ heard_value _ _ two, good_value _ _ (c.is_finite.ensures ∙ ap finite value) two)
