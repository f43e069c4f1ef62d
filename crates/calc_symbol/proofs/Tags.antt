-- A sign that no operand goes on with. Assumes nothing.
use Rattle.std.specs.Prelude.{◌≡◌, refl, List, ℕ, ◌≤◌}
use Rattle.std.proofs.Common.{arith}
use Rattle.spec_calc.specs.declared.Operator.{Operator}
use Rattle.spec_calc.specs.Reader.{ends}
use Rattle.calc_symbol.specs.declared.Sign.{Sign}
use Rattle.calc_symbol.specs.declared.Sign.TheVariants as code
use Rattle.calc_symbol.specs.Scan.{syms, symbol_of, SymbolAt}
use Rattle.calc_symbol.specs.Lookahead.{ends_of}
use Rattle.calc_symbol.specs.laws.Lookaheads.{ends_at}

-- neither an operator nor a question mark
pub no_joint :
    (x : Sign) → ((o : Operator) → x ≡ code.Operator o → ⊥) → (x ≡ code.Question → ⊥)
    → (s : List ℕ) (at l : ℕ) {p : ℕ} → SymbolAt s at (symbol_of x) p → ends_of (syms s at) ≤ l
no_joint x ne q s at l y = let e = ends_at s at y in let z = go x ne q in omega arith
  where
    go : (x : Sign) → ((o : Operator) → x ≡ code.Operator o → ⊥) → (x ≡ code.Question → ⊥) → ends (symbol_of x) ≤ 0
    go (code.Operator o) ne q = absurd (ne o refl)
    go code.Not ne q = omega arith
    go code.Question ne q = absurd (q refl)
    go code.Colon ne q = omega arith
    go code.Open ne q = omega arith
    go code.Close ne q = omega arith
