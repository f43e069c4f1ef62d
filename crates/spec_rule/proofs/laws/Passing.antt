-- When a rule stands, test by test; it passes exactly if it stands and its calculation is true.
use Rattle.std.specs.Prelude.{◌≡◌, refl, Bool, true, false, not, ◌&&◌, ◌≤◌, ◌<◌, leb}
use Rattle.std.proofs.Common.{le-leb}
use Rattle.std.proofs.lemmas.Bool.{lt-leb}
use Rattle.spec_lists.specs.Text.{same, lowered}
use Rattle.spec_rule.specs.Question.{Question}
use Rattle.spec_rule.specs.Rule.{Rule, belongs, matches_question, calculation_holds, passes, stands}

under : (a b : Bool) → b ≡ false → a && b ≡ false
under true b e = e
under false b e = refl

regrouped : (a b c d e : Bool) → a && (b && (c && (d && e))) ≡ (a && (b && (c && d))) && e
regrouped false b c d e = refl
regrouped true false c d e = refl
regrouped true true false d e = refl
regrouped true true true d e = refl

module _ (q : Question) (r : Rule) where
  abbrev level_test : Bool
  level_test = leb q.level r.level

  abbrev user_test : Bool
  user_test = belongs (matches_question q) r.uags

  abbrev host_test : Bool
  host_test = belongs (same (lowered q.host)) r.hags

  pub fails_off : r.switched_off ≡ true → stands q r ≡ false
  fails_off e = rw e

  pub fails_level : r.level < q.level → stands q r ≡ false
  fails_level l = under (not r.switched_off) (level_test && (user_test && host_test)) (rw (lt-leb q.level r.level l))

  pub fails_user : user_test ≡ false → stands q r ≡ false
  fails_user e = under (not r.switched_off) (level_test && (user_test && host_test)) (under level_test (user_test && host_test) (rw e))

  -- the last test decides once the others hold
  pub stands_by : r.switched_off ≡ false → q.level ≤ r.level → user_test ≡ true → stands q r ≡ host_test
  stands_by o l u = rw (o, le-leb q.level r.level l, u)

  pub passes_stands : passes q r ≡ stands q r && calculation_holds q.readings r.calculation
  passes_stands = regrouped (not r.switched_off) level_test user_test host_test (calculation_holds q.readings r.calculation)
