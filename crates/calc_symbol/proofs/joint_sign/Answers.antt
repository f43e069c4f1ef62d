use native.Mathlib.Omega.{arith}
use Rattle.calc_symbol.specs.laws.Lookaheads.{ends_at}
use Rattle.calc_symbol.proofs.Tags.{no_joint}
use Rattle.calc_symbol.specs.Scan.{symbol_of, SymbolAt}
use Rattle.calc_symbol.specs.declared.Sign.{Sign}
use mathlib.Core.Path.{subst}
use Rattle.calc_symbol.proofs.joint_sign.Goals as goal

pub returns-then-l-level_of : goal.returns-then-l-level_of
returns-then-l-level_of c = λ s at k.
    (subst (λ (y : Sign). SymbolAt s at (symbol_of y) c.args.p) c.in-Operator.is k, omega (arith, c.level_of.ensures))

pub returns-else-l-level_of : goal.returns-else-l-level_of
returns-else-l-level_of c = λ s at k.
    let e = ends_at s at (subst (λ (y : Sign). SymbolAt s at (symbol_of y) c.args.p) c.in-Operator.is k) in
    omega (arith, c.level_of.ensures)

pub returns-then-l-eq0 : goal.returns-then-l-eq0
returns-then-l-eq0 c = λ s at k. (subst (λ (y : Sign). SymbolAt s at (symbol_of y) c.args.p) c.in-Question.is k, c.if-l-eq0.true)

pub returns-else-l-eq0 : goal.returns-else-l-eq0
returns-else-l-eq0 c = λ s at k.
    let e = ends_at s at (subst (λ (y : Sign). SymbolAt s at (symbol_of y) c.args.p) c.in-Question.is k) in
    omega (arith, c.if-l-eq0.false)

pub returns-in_default : goal.returns-in_default
returns-in_default c = λ s at k. no_joint c.args.x c.in_default.not-Operator c.in_default.not-Question s at c.args.l k
