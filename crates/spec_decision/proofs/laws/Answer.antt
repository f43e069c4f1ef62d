-- What a question is answered by some rules: the decision exactly if it is valid, and when 21 and 26.
use Rattle.std.specs.Prelude.{◌≡◌, refl, Bool, true, false, cond, List, ◌↔◌, ◌≤◌, ◌<◌}
use Rattle.std.proofs.Common.{sym, subst, ◌∙◌, leb-true, leb-false, le-leb}
use Rattle.std.proofs.lemmas.Bool.{false≢true, lt-leb}
use Rattle.spec_rule.specs.declared.Decision.{Decision}
use Rattle.spec_rule.specs.Answering.{a_level, greatest_level}
use Rattle.spec_rule.specs.Roles.{RolesFit, roles_fit}
use Rattle.spec_rule.specs.Question.{Question, Valid}
use Rattle.spec_rule.specs.Rule.{Rule}
use Rattle.spec_rule.specs.Decision.{decision_by}
use Rattle.spec_rule.proofs.laws.Roles.{roles_fit_is}
use Rattle.spec_decision.specs.declared.Answer.{Answer}
use Rattle.spec_decision.specs.declared.Answer.TheVariants.{Answered, NotTable, BadLevel, BadRoles}
use Rattle.spec_decision.specs.Decision.{answer_by}

module _ (q : Question) (rs : List Rule) where
  -- by the two tests
  abbrev pub tested : Bool → Bool → Answer
  tested l f = cond l (cond f (Answered (decision_by q rs)) BadRoles) BadLevel

  -- what each answer says of the question and the rules
  abbrev Means : Answer → Type 0
  Means (Answered d) = Valid q × (decision_by q rs ≡ d)
  Means NotTable = ⊥
  Means BadLevel = greatest_level < q.level
  Means BadRoles = (q.level ≤ greatest_level) × (RolesFit q.roles → ⊥)

  means : (l f : Bool) → a_level q.level ≡ l → roles_fit q.roles ≡ f → Means (tested l f)
  means true true l f = (record { level = leb-true q.level greatest_level l; roles = (roles_fit_is q.roles).0 f }, refl)
  means true false l f = (leb-true q.level greatest_level l, λ h. false≢true (sym f ∙ (roles_fit_is q.roles).1 h))
  means false f l g = leb-false q.level greatest_level l

  means_it : Means (answer_by q rs)
  means_it = means (a_level q.level) (roles_fit q.roles) refl refl

  said : {a : Answer} → answer_by q rs ≡ a → Means a
  said {a} e = subst Means e means_it

  pub by_rules_is : (d : Decision) → (answer_by q rs ≡ Answered d) ↔ (Valid q × (decision_by q rs ≡ d))
  by_rules_is d = (
    λ e. said e,
    λ h. rw (le-leb q.level greatest_level h.0.level, (roles_fit_is q.roles).1 h.0.roles, h.1),
  )

  pub never_no_table : answer_by q rs ≡ NotTable → ⊥
  never_no_table e = said e

  pub by_level_is : (answer_by q rs ≡ BadLevel) ↔ (greatest_level < q.level)
  by_level_is = (λ e. said e, λ l. rw (lt-leb q.level greatest_level l))

  pub by_roles_is : (answer_by q rs ≡ BadRoles) ↔ ((q.level ≤ greatest_level) × (RolesFit q.roles → ⊥))
  by_roles_is = (λ e. said e, λ h. rw (le-leb q.level greatest_level h.0) (go (roles_fit q.roles) refl h.1))
    where
      go : (f : Bool) → roles_fit q.roles ≡ f → (RolesFit q.roles → ⊥) → cond f (Answered (decision_by q rs)) BadRoles ≡ BadRoles
      go true e n = absurd (n ((roles_fit_is q.roles).0 e))
      go false e n = refl
