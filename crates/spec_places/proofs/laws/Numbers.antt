-- The access group of a number has the rules that a question of its name goes by, so a right is decided by the number alone.
use Rattle.std.specs.Prelude.{◌≡◌, refl, Bool, true, false, List, [], ℕ, ◌<◌, get_or}
use Rattle.std.proofs.Common.{sym, ap, ◌∙◌}
use Rattle.std.proofs.Math.Option.{Option, none, some, map}
use Rattle.spec_calc.specs.declared.Reading.{Reading}
use Rattle.spec_rule.specs.Roles.{roles_fit}
use Rattle.spec_rule.specs.Question.{Question}
use Rattle.spec_rule.specs.Rule.{Rule}
use Rattle.spec_rule.specs.Decision.{no_access, decision_by}
use Rattle.spec_rule.specs.Answering.{a_level}
use Rattle.spec_rule.specs.Number.{decision_from, decision_number}
use Rattle.spec_rule.proofs.laws.Number.{decision_again, decision_known}
use Rattle.spec_file.specs.Limit.{access_groups, most}
use Rattle.spec_table.specs.View.{view}
use Rattle.spec_table.specs.Check.{is_table}
use Rattle.spec_table.specs.Policy.{rules_of}
use Rattle.spec_decision.specs.Decision.{decision_in, rules_in, rules_for, decide}
use Rattle.spec_decision.specs.Groups.{Numbered, group_answering, answering_number}
use Rattle.spec_decision.proofs.laws.Groups.{answering_stands, answering_row}
use Rattle.spec_register.specs.Register.{Client, Register, readings_at}
use Rattle.spec_register.specs.Right.{readings_of, question_now}
use Rattle.spec_register.proofs.laws.Input.{number_few}
use Rattle.spec_places.specs.Storage.{nothing_kept}
use Rattle.spec_places.specs.Writing.{rules_at, asked, kept_by, kept}

-- ---- the rules of a number

abbrev pub rules_by : List ℕ → Option ℕ → List Rule
rules_by t none = []
rules_by t (some i) = rules_at t i

pub rules_numbered : (t n : List ℕ) → rules_for (view t) n ≡ rules_by t (answering_number t n)
rules_numbered t n =
    ap (rules_in (view t)) (sym (answering_row t n)) ∙ by (group_answering t n) refl
  where
    by :
        (o : Option Numbered) → group_answering t n ≡ o
        → rules_in (view t) (map (λ g. g.row) o) ≡ rules_by t (map (λ g. g.number) o)
    by none h = refl
    by (some g) h = ap (rules_of (view t)) (answering_stands t n g h).row

-- ---- the decision

-- the number of what rules give is read again
pub decision_read : (q : Question) (rules : List Rule) → decision_from (decision_number (decision_by q rules)) ≡ decision_by q rules
decision_read q rules = decision_again (decision_by q rules) (decision_known q rules)

-- a table answers a question that asks for a level, with roles that fit, by the rules of the answering group's number
pub decided_by :
    (t : List ℕ) (q : Question) → is_table t ≡ true → a_level q.level ≡ true → roles_fit q.roles ≡ true
    → decision_in (decide t q) ≡ decision_by q (rules_by t (answering_number t q.group))
unfolding decide
decided_by t q i a f = rw (i, a, f) (ap (decision_by q) (rules_numbered t q.group))

-- bytes that are no table refuse it
pub undecided : (t : List ℕ) (q : Question) → is_table t ≡ false → decision_in (decide t q) ≡ no_access
unfolding decide
undecided t q i = rw i

-- ---- what a place keeps of a client

-- nothing, whatever the readings; or what it keeps of the answering group
pub data Keeps (t : List ℕ) (c : Client) : Type 0 where
  nothing : ((rs : ℕ → List Reading) → kept t rs c ≡ nothing_kept) → Keeps t c
  of_group :
      (i : ℕ) → i < most access_groups → is_table t ≡ true → ((rs : ℕ → List Reading) → kept t rs c ≡ kept_by t rs c (some i)) → Keeps t c

pub keeps : (t : List ℕ) (c : Client) → Keeps t c
keeps t c = on (is_table t) refl
  where
    by : is_table t ≡ true → (o : Option Numbered) → group_answering t c.group ≡ o → Keeps t c
    by i none e = nothing (λ rs. rw (i, e))
    by i (some g) e = of_group g.number (number_few t g i (answering_stands t c.group g e)) i (λ rs. rw (i, e))

    on : (b : Bool) → is_table t ≡ b → Keeps t c
    on true i = by i (group_answering t c.group) refl
    on false i = nothing (λ rs. rw i)

-- it goes by the readings of a table's groups alone
pub kept_agrees :
    (t : List ℕ) (c : Client) (rs qs : ℕ → List Reading) → ((i : ℕ) → i < most access_groups → rs i ≡ qs i) → kept t rs c ≡ kept t qs c
kept_agrees t c rs qs e = by (keeps t c)
  where
    by : Keeps t c → kept t rs c ≡ kept t qs c
    by (nothing k) = k rs ∙ sym (k qs)
    by (of_group i l h k) = k rs ∙ rw (e i l) (sym (k qs))

-- the kept right is what a question would answer
pub kept_decides :
    (t : List ℕ) (r : Register) (rs : ℕ → List Reading) (c : Client) → a_level c.level ≡ true
    → ((i : ℕ) → i < most access_groups → rs i ≡ readings_at r i)
    → decision_from (get_or (kept t rs c) 1 0) ≡ decision_in (decide t (question_now t r c))
kept_decides t r rs c a same-readings = on (is_table t) refl
  where
    number_of : Option Numbered → Option ℕ
    number_of = map (λ g. g.number)

    by :
        is_table t ≡ true → (o : Option Numbered) → group_answering t c.group ≡ o
        → decision_from (get_or (kept_by t rs c (number_of o)) 1 0) ≡ decision_by (asked c (readings_of r (number_of o))) (rules_by t (number_of o))
    by i none e = refl
    by i (some g) e =
        let n = g.number in
        decision_read (asked c (rs n)) (rules_at t n)
        ∙ ap
        (λ (x : List Reading). decision_by (asked c x) (rules_at t n))
        (same-readings n (number_few t g i (answering_stands t c.group g e)))

    on : (b : Bool) → is_table t ≡ b → decision_from (get_or (kept t rs c) 1 0) ≡ decision_in (decide t (question_now t r c))
    on true i = rw i (by i (group_answering t c.group) refl ∙ sym (decided_by t (question_now t r c) i a refl))
    on false i = rw i (sym (undecided t (question_now t r c) i))
