-- A slice answers a question with a decision exactly if it is a table, the question is valid, and 001's steps give that decision.
use Rattle.std.specs.Prelude.{◌≡◌, refl, List, ◌↔◌, ℕ}
use Rattle.std.proofs.Common.{ap, arith}
use Rattle.std.proofs.Math.Option.{some}
use Rattle.spec_calc.specs.declared.Reading.{Reading}
use Rattle.spec_rule.specs.declared.Access.TheVariants as access
use Rattle.spec_rule.specs.declared.Stop.TheVariants.{Letter}
use Rattle.spec_rule.specs.declared.Decision.{Decision}
use Rattle.spec_rule.specs.Question.{Question, Valid, reading_instead}
use Rattle.spec_rule.specs.Decision.{decision_by}
use Rattle.spec_rule.specs.Privilege.{Some, Answers}
use Rattle.spec_rule.specs.Finite.{GivesOnFiniteValues}
use Rattle.spec_rule.specs.Letter.{Tells}
use Rattle.spec_rule.proofs.laws.Privilege.{determined_is}
use Rattle.spec_rule.proofs.laws.Mended.{tells}
use Rattle.spec_rule.proofs.laws.Finite.{granted_on_finite}
use Rattle.spec_file.specs.Limit.{access_groups}
use Rattle.spec_table.specs.View.{view}
use Rattle.spec_table.specs.Table.{Table}
use Rattle.spec_table.specs.Policy.{name, rules_of}
use Rattle.spec_decision.specs.declared.Answer.TheVariants.{Answered, NotTable}
use Rattle.spec_decision.specs.Decision.{access_in, rules_in, rules_for, decide}
use Rattle.spec_decision.specs.Privilege.{DeterminedByTable}
use Rattle.spec_decision.proofs.laws.Answer.{by_rules_is}
use Rattle.spec_decision.proofs.laws.Refused.{of_table}

answered_not : (d : Decision) → Answered d ≡ NotTable → ⊥
answered_not d e = let z : ◌≡◌ {A = ℕ} 0 1 = cc in omega arith

pub by_table_is : (b : List ℕ) (q : Question) (d : Decision) → (decide b q ≡ Answered d) ↔ (Table b × Valid q × DeterminedByTable (view b) q d)
by_table_is b q d =
    let t = of_table b q (Answered d) (answered_not d) in
    let r = by_rules_is q (rules_for (view b) q.group) d in (
      λ e. let h = r.0 (t.0 e).1 in ((t.0 e).0, h.0, steps.0 h.1),
      λ h. t.1 (h.0, r.1 (h.1, steps.1 h.2)),
    )
  where
    steps : (decision_by q (rules_for (view b) q.group) ≡ d) ↔ DeterminedByTable (view b) q d
    steps = determined_is (name (view b) access_groups) (rules_of (view b)) (rules_in (view b)) refl (λ g. refl) ((view b).records access_groups) q d

pub granted_on_finite_values :
    (b : List ℕ) (q : Question) (d : Decision) → decide b q ≡ Answered d → (d.access ≡ access.None → ⊥)
    → (g : List ℕ)
    × Answers (name (view b) access_groups) q.group ((view b).records access_groups) (some g)
    × Some (GivesOnFiniteValues q d.access) (rules_of (view b) g)
granted_on_finite_values b q d e n =
    granted_on_finite (name (view b) access_groups) (rules_of (view b)) ((view b).records access_groups) q ((by_table_is b q d).0 e).2 n

-- ---- the letter

-- with other readings a question that was answered is answered
pub answered_too :
    (b : List ℕ) (q : Question) {d : Decision} → decide b q ≡ Answered d → (better : List Reading)
    → (e : Decision) × (decide b (reading_instead q better) ≡ Answered e)
answered_too b q {d} e better =
    let other = reading_instead q better in
    let rs = rules_for (view b) q.group in
    let d' = decision_by other rs in
    let h = (by_table_is b q d).0 e in
    let v : Valid other = record { level = h.1.level; roles = h.1.roles } in
    (d', (of_table b other (Answered d') (answered_not d')).1 (h.0, (by_rules_is other rs d').1 (v, refl)))

pub tells_by_table :
    (b : List ℕ) (q : Question) (d : Decision) (i : ℕ) → decide b q ≡ Answered d → d.letter ≡ Letter i
    → Tells (name (view b) access_groups) (rules_of (view b)) ((view b).records access_groups) q d i (λ rs. access_in (decide b (reading_instead q rs)))
tells_by_table b q d i e l =
    tells
    (name (view b) access_groups)
    (rules_of (view b))
    ((view b).records access_groups)
    q
    ((by_table_is b q d).0 e).2
    l
    (λ rs. access_in (decide b (reading_instead q rs)))
    (λ rs.
    let o = answered_too b q e rs in
    (o.0, ((by_table_is b (reading_instead q rs) o.0).0 o.1).2, ap access_in o.1))
