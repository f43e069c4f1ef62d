use Rattle.reg_right.specs.laws.Differ.{differ_by_numbers}
use Rattle.spec_rule.specs.Number.{decision_number}
use lib.Dec.{eqb}
use Prim.Native.Nat.{ℕ}
use mathlib.Core.Path.{ap, ap₂, ◌∙◌}
use mathlib.Core.Bool.{not}
use Rattle.reg_right.proofs.differ.Goals as goal

pub returns : goal.returns
returns c = ap₂ (λ (x y : ℕ). not (eqb x y)) (c.number-one.ensures ∙ ap decision_number c.from_number.ensures) (c.number-other.ensures ∙ ap decision_number c.from_number-2.ensures) ∙ differ_by_numbers c.args.before c.args.after
