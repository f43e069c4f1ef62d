-- Whatever is granted is granted by a rule all of whose evaluated values are finite.
use Rattle.std.specs.Prelude.{◌≡◌, refl, true, List, ℕ}
use Rattle.std.proofs.Common.{subst}
use Rattle.std.proofs.Math.Option.{some}
use Rattle.spec_calc.specs.declared.Reading.{Reading}
use Rattle.spec_calc.specs.Value.{FiniteParts}
use Rattle.spec_calc.proofs.laws.Theorem.{one_tree}
use Rattle.spec_rule.specs.declared.Access.{Access}
use Rattle.spec_rule.specs.declared.Access.TheVariants as access
use Rattle.spec_rule.specs.declared.Decision.{Decision}
use Rattle.spec_rule.specs.Question.{Question}
use Rattle.spec_rule.specs.Rule.{Rule, calculation_holds}
use Rattle.spec_rule.specs.Privilege.{Some, here, further, Answers, YieldsTrue, Gives, Greatest, Determined, by_group, by_no_group}
use Rattle.spec_rule.specs.Finite.{FiniteValues, GivesOnFiniteValues}
use Rattle.spec_rule.proofs.laws.Asked.{calculation_is}

yields_finite : (rs : List Reading) (s : List ℕ) → YieldsTrue rs s → FiniteValues rs s
yields_finite rs s y t p = subst (FiniteParts rs) (one_tree s y.tree t y.says p) y.parts

pub true_finite : (rs : List Reading) (s : List ℕ) → calculation_holds rs (some s) ≡ true → FiniteValues rs s
true_finite rs s e = yields_finite rs s ((calculation_is rs s).0 e)

on_finite : (q : Question) {a : Access} {rs : List Rule} → Some (Gives q a) rs → Some (GivesOnFiniteValues q a) rs
on_finite q (here g) = here (g, λ s e. yields_finite q.readings s (g.0.asked.calculation s e))
on_finite q (further s) = further (on_finite q s)

-- an access other than NONE is given by some rule
chosen_given : (q : Question) {rs : List Rule} {a : Access} → Greatest (λ b. Some (Gives q b) rs) a → (a ≡ access.None → ⊥) → Some (Gives q a) rs
chosen_given q {a = access.None} g n = absurd (n refl)
chosen_given q {a = access.Read} g n = (g.read.0 refl).1
chosen_given q {a = access.Write} g n = g.write.0 refl

pub granted_on_finite :
    {G : Type 0} (name : G → List ℕ) (rules : G → List Rule) (gs : List G) (q : Question) {d : Decision} → Determined name rules gs q d
    → (d.access ≡ access.None → ⊥) → (g : G) × Answers name q.group gs (some g) × Some (GivesOnFiniteValues q d.access) (rules g)
granted_on_finite name rules gs q (by_group {g = g} a c) n = (g, a, on_finite q (chosen_given q c.maximum n))
granted_on_finite name rules gs q (by_no_group a) n = absurd (n refl)
