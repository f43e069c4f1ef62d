-- Laws of a rule's calculation, as its record says where it stands.
use Rattle.std.specs.Prelude.{◌≡◌, refl, Bool, true, false, ◌&&◌, List, ℕ, ◌+◌, eqb}
use Rattle.std.proofs.Common.{arith, eqb-true}
use Rattle.spec_calc.specs.declared.Reading.{Reading}
use Rattle.spec_calc.specs.Reader.{tree_of}
use Rattle.spec_calc.specs.Value.{worth}
use Rattle.spec_rule.specs.Rule.{judged, outcome}
use Rattle.spec_table.specs.Layout.{Content}
use Rattle.spec_table.specs.Check.{calculation_run, no_calculation}
use Rattle.spec_table.specs.Policy.{string, rule_of}

not_both : (a b : Bool) → (a ≡ true → b ≡ true → ⊥) → a && b ≡ false
not_both true true n = absurd (n refl refl)
not_both true false n = refl
not_both false b n = refl

module _ (c : Content) (w : List ℕ) where
  abbrev end : ℕ
  end = (calculation_run w).first + (calculation_run w).count

  pub some_there : (end ≡ 0 → ⊥) → no_calculation (calculation_run w) ≡ false
  some_there e =
      let run = calculation_run w in
      not_both (eqb run.first 0) (eqb run.count 0) (λ x y. e (omega (arith, eqb-true run.first 0 x, eqb-true run.count 0 y)))

  module _ (rs : List Reading) where
    pub calculation_decides : (end ≡ 0 → ⊥) → outcome rs (rule_of c w).calculation ≡ judged (worth rs (tree_of (string c (calculation_run w))))
    calculation_decides e = rw (some_there e)
