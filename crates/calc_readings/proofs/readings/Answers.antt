use Rattle.std.specs.Prelude.{◌≡◌, ◌+◌, ℕ, List, Float, Option, get_or}
use Rattle.std.specs.Option.{unwrap_or}
use Rattle.std.proofs.Common.{refl, ap, ap₂, ◌∙◌, arith, get_or-drop}
use Rattle.std.specs.Float.{nan}
use Rattle.std.specs.Float.Ieee.{of_bits}
use Rattle.spec_calc.specs.States.{reading}
use Rattle.calc_readings.specs.laws.Readings.{stand_none, stand_more}
use Rattle.calc_readings.proofs.readings.Goals as goal

pub loop-i-init : goal.loop-i-init
loop-i-init c = stand_none _ _ _ _ refl

pub loop-i-preserved : goal.loop-i-preserved
unfolding of_bits
loop-i-preserved c = let a = c.args in
    let i = c.loop-i.i in
    let state : c.unwrap_or-state.result ≡ get_or a.states.now (a.from + i) 0 =
    c.unwrap_or-state.ensures ∙ ap (λ (o : Option ℕ). unwrap_or o 0) c.copied.ensures ∙ c.get.ensures.lookup.4 (omega arith) 0
    ∙ ap (λ (l : List ℕ). get_or l i 0) c.tail-states.ensures ∙ get_or-drop a.from a.states.now i 0 in
    let value : c.unwrap_or-value.result ≡ get_or a.values.now (a.from + i) nan =
    c.unwrap_or-value.ensures ∙ ap (λ (o : Option Float). unwrap_or o nan) c.copied-in-loop-i.ensures
    ∙ c.get-in-loop-i.ensures.lookup.4 (omega arith) nan ∙ ap (λ (l : List Float). get_or l i nan) c.tail-values.ensures
    ∙ get_or-drop a.from a.values.now i nan in
    stand_more a.states.now a.values.now c.loop-i.invariant (omega arith) (c.reading.ensures ∙ ap₂ reading state value)
