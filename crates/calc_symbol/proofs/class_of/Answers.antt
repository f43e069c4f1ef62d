use mathlib.Core.Logic.{inl, inr, ⊎_elim}
use mathlib.Core.Path.{refl}
use native.Mathlib.Omega.{arith}
use Rattle.spec_lists.proofs.laws.Range.{below, above}
use Rattle.spec_calc.proofs.laws.Symbols.{start_digit, start_upper, start_lower}
use Rattle.calc_symbol.specs.laws.Bytes.{start_other}
use Rattle.calc_symbol.proofs.class_of.Goals as goal

pub returns-in-9 : goal.returns-in-9
returns-in-9 c = ⊎_elim (λ e. ((λ s. rw e refl), tt)) (λ e. ((λ s. rw e refl), tt)) c.in-9.is

pub returns-in-65-to-85 : goal.returns-in-65-to-85
returns-in-65-to-85 c = ((λ s. start_upper c.args.b s (omega arith) (omega arith)), omega arith)

pub returns-in-97-to-117 : goal.returns-in-97-to-117
returns-in-97-to-117 c = ((λ s. start_lower c.args.b s (omega arith) (omega arith)), omega arith)

pub returns-in_default : goal.returns-in_default
returns-in_default c = (
  (λ s. start_other c.args.b (λ e. c.in_default.in_default-own.rest.0.1 (inl e)) (λ e. c.in_default.in_default-own.rest.0.1 (inr e))
      c.in_default.in_default-own.rest.1 s (below 48 57 c.args.b (omega arith))
      (below 65 85 c.args.b (omega arith)) (below 97 117 c.args.b (omega arith))),
  tt,
)

pub returns-in_default-2 : goal.returns-in_default-2
returns-in_default-2 c = (
  (λ s. start_other c.args.b (λ e. c.in_default.in_default-own.rest.0.1 (inl e))
      (λ e. c.in_default.in_default-own.rest.0.1 (inr e)) c.in_default.in_default-own.rest.1 s
      (above 48 57 c.args.b (omega arith))
      (below 65 85 c.args.b (omega arith))
      (below 97 117 c.args.b (omega arith))),
  tt,
)

pub returns-in_default-3 : goal.returns-in_default-3
returns-in_default-3 c = (
  (λ s. start_other c.args.b
      (λ e. c.in_default.in_default-own.rest.0.1 (inl e))
      (λ e. c.in_default.in_default-own.rest.0.1 (inr e)) c.in_default.in_default-own.rest.1
      s (above 48 57 c.args.b (omega arith))
      (above 65 85 c.args.b (omega arith))
      (below 97 117 c.args.b (omega arith))),
  tt,
)

pub returns-in_default-4 : goal.returns-in_default-4
returns-in_default-4 c = (
  (λ s. start_other c.args.b
      (λ e. c.in_default.in_default-own.rest.0.1 (inl e))
      (λ e. c.in_default.in_default-own.rest.0.1 (inr e))
      c.in_default.in_default-own.rest.1 s
      (above 48 57 c.args.b (omega arith))
      (above 65 85 c.args.b (omega arith))
      (above 97 117 c.args.b (omega arith))),
  tt,
)

pub returns-in-46 : goal.returns-in-46
returns-in-46 c = ((λ s. rw c.in-46.in-46-own.keys2 refl), tt)

pub returns-in-46-2 : goal.returns-in-46-2
returns-in-46-2 c = ((λ s. start_digit c.args.b s (omega arith) (omega arith)), tt)
