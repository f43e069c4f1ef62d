-- "Removing a role from a valid question never raises its access."
use Rattle.std.specs.Prelude.{◌≡◌, Bool, cond, List, ◌∷◌, ◌++◌, ℕ, ◌≤◌}
use Rattle.std.proofs.Math.Bool.{true, false}
use Rattle.std.proofs.Math.Nat.{le_refl}
use Rattle.std.proofs.Common.{le-leb}
use Rattle.spec_rule.specs.Answering.{greatest_level}
use Rattle.spec_rule.specs.Question.{Question, with_roles, Valid}
use Rattle.spec_rule.specs.Rule.{Rule, rank}
use Rattle.spec_rule.proofs.laws.Roles.{roles_fit_is, fewer_valid}
use Rattle.spec_rule.proofs.laws.Fewer.{access_less}
use Rattle.spec_table.specs.View.{view}
use Rattle.spec_table.specs.Check.{is_table}
use Rattle.spec_decision.specs.declared.Answer.TheVariants.{NotTable}
use Rattle.spec_decision.specs.Decision.{rules_for, access_in, answer_by, decide}

module _ (q : Question) (v : Valid q) (before : List (List ℕ)) (role : List ℕ) (behind : List (List ℕ)) (e : q.roles ≡ before ++ (role ∷ behind)) where
  abbrev less : Question
  less = with_roles q (before ++ behind)

  valid_less : Valid less
  valid_less = fewer_valid q v before role behind e

  answer_less : (rs : List Rule) → rank (access_in (answer_by less rs)) ≤ rank (access_in (answer_by q rs))
  answer_less rs =
      rw (
        le-leb q.level greatest_level v.level,
        (roles_fit_is q.roles).1 v.roles,
        (roles_fit_is (before ++ behind)).1 valid_less.roles,
      )
      (access_less q before role behind e rs)

  never_raises : (b : List ℕ) → rank (access_in (decide b less)) ≤ rank (access_in (decide b q))
  unfolding decide
  never_raises b = go (is_table b)
    where
      go :
          (t : Bool)
          → rank (access_in (cond t (answer_by less (rules_for (view b) q.group)) NotTable))
          ≤ rank (access_in (cond t (answer_by q (rules_for (view b) q.group)) NotTable))
      go true = answer_less (rules_for (view b) q.group)
      go false = le_refl 0

  pub role_removed : (b : List ℕ) → Valid less × (rank (access_in (decide b less)) ≤ rank (access_in (decide b q)))
  role_removed b = (valid_less, never_raises b)
