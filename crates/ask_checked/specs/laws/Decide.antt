-- The answer to a question, from the group that a search finds and from what its rules give.
use Rattle.std.specs.Prelude.{◌≡◌, true, false, List, ℕ, ◌+◌, ◌-◌, ◌≤◌, ◌<◌, drop}
use Rattle.std.proofs.Common.{refl, sym, ap, ◌∙◌, arith}
use Rattle.std.proofs.Math.Option.{Option, some}
use borrow.Author.Tests.{le-leb, lt-leb}
use Rattle.spec_lists.specs.Runs.{Run}
use Rattle.spec_calc.specs.declared.Reading.{Reading}
use Rattle.spec_rule.specs.declared.Decision.{Decision}
use Rattle.spec_rule.specs.declared.Verdict.{Verdict}
use Rattle.spec_rule.specs.Roles.{roles_fit}
use Rattle.spec_rule.specs.Question.{Question}
use Rattle.spec_rule.specs.Decision.{no_access, decision_by}
use Rattle.spec_rule.specs.Rule.{Rule}
use Rattle.spec_rule.specs.Verdict.{nothing_given, by_rule, then, verdict_by, normal, settled}
use Rattle.spec_rule.proofs.laws.Decision.{nothing_then, verdict_first, decision_settled, turned, normal_normal, settled_end}
use Rattle.spec_file.specs.Limit.{access_groups}
use Rattle.spec_table.specs.View.{view}
use Rattle.spec_table.specs.Check.{is_table, rules_run}
use Rattle.spec_table.specs.Policy.{row}
use Rattle.spec_decision.specs.declared.Answer.{Answer}
use Rattle.spec_decision.specs.declared.Answer.TheVariants as answer
use Rattle.spec_decision.specs.Decision.{rules_in, decide}
use Rattle.spec_decision.specs.Groups.{answering_number}
use Rattle.table_read.specs.Search.{Index}
use Rattle.std.specs.Prelude.{Some, None}
use Rattle.table_read.specs.Stored.{Stored}
use Rattle.table_read.specs.Search.{index_of, group_for}
use Rattle.table_read.specs.laws.Search.{finds_at, finds_none, finds_answering}
use Rattle.calc_inputs.specs.declared.Inputs.{Inputs}
use Rattle.ask_rule.specs.declared.Client.{Client}
use Rattle.ask_rule.specs.Rules.{rule_at, question, asked_by, InputsAre, WithRule}
use Rattle.ask_checked.specs.Group.{group_rules, ByGroup}
use Rattle.ask_checked.specs.laws.Group.{group_on, group_end}

-- ---- rule by rule

module _ (b : List ℕ) (i : ℕ) (c : Client) (inputs : Inputs) where
  abbrev run : Run
  run = rules_run (row (view b) access_groups i)

  abbrev rest : ℕ → List Rule
  rest k = drop (k - run.first) (group_rules b i)

  -- v is what the rules before the k-th give
  pub record Tried (v : Verdict) (k : ℕ) : Type 0 where
    pub is_normal : (rs : List Reading) → InputsAre inputs rs → normal v ≡ v
    pub decides :
        (rs : List Reading) → InputsAre inputs rs
        → decision_by (asked_by c rs) (group_rules b i) ≡ settled (then v (verdict_by (asked_by c rs) (rest k)))

  pub none_tried : {v : Verdict} → v ≡ nothing_given → Tried v run.first
  none_tried {v} e = record {
    is_normal = λ rs h. rw e refl;
    decides = λ rs h.
        let q = asked_by c rs in
        let z : 0 ≡ run.first - run.first = omega arith in
        decision_settled q (group_rules b i)
        ∙ ap settled (sym (nothing_then (verdict_by q (group_rules b i))))
        ∙ ap (λ (x : Verdict). settled (then x (verdict_by q (group_rules b i)))) (sym e)
        ∙ ap (λ (k : ℕ). settled (then v (verdict_by q (drop k (group_rules b i))))) z;
  }

  module _ (h : Stored b access_groups i) {v : Verdict} {k : ℕ} (t : Tried v k) (low : run.first ≤ k) where
    pub one_tried : {w : Verdict} → k < run.first + run.count → WithRule b k c inputs v w → Tried w (k + 1)
    one_tried {w} l e =
        let given : (rs : List Reading) → InputsAre inputs rs → w ≡ normal (then v (by_rule (asked_by c rs) (rule_at b k))) = λ rs g. e rs g (t.is_normal rs g) in
        record {
          is_normal = λ rs g. rw (given rs g) (normal_normal (then v (by_rule (asked_by c rs) (rule_at b k))));
          decides = λ rs g.
              let q = asked_by c rs in
              let at : run.first + (k - run.first) ≡ k = omega arith in
              let z : k - run.first + 1 ≡ k + 1 - run.first = omega arith in
              let on = rw (at, z) at (group_on b i h (k - run.first) (omega arith)) in
              t.decides rs g
              ∙ ap (λ (x : Verdict). settled (then v x)) (ap (verdict_by q) on ∙ verdict_first q (rule_at b k) (rest (k + 1)))
              ∙ turned v (by_rule q (rule_at b k)) (verdict_by q (rest (k + 1))) (given rs g);
        }

    pub all_tried : run.first + run.count ≤ k → ByGroup b i c inputs (settled v)
    all_tried l = λ rs g.
        let q = asked_by c rs in
        sym (
        t.decides rs g
        ∙ ap (λ (rules : List Rule). settled (then v (verdict_by q rules))) (group_end b i h (k - run.first) (omega arith))
        ∙ settled_end v
        )

-- ---- the answer

abbrev answer_of : Decision → Answer
answer_of d = answer.Answered d

module _ (b : List ℕ) (q : Question) where
  pub decide_not : is_table b ≡ false → decide b q ≡ answer.NotTable
  unfolding decide
  decide_not h = rw h

  module _ (h : is_table b ≡ true) where
    pub decide_bad : 1 < q.level → decide b q ≡ answer.BadLevel
    unfolding decide
    decide_bad l = rw (h, lt-leb q.level 1 l)

    module _ (l : q.level ≤ 1) where
      pub decide_roles : roles_fit q.roles ≡ false → decide b q ≡ answer.BadRoles
      unfolding decide
      decide_roles n = rw (h, le-leb q.level 1 l, n)

      module _ (fit : roles_fit q.roles ≡ true) {r : Index} (f : r ≡ index_of (answering_number b q.group)) where
        abbrev given : Option (List ℕ) → Answer
        given o = answer.Answered (decision_by q (rules_in (view b) o))

        decided : {o : Option (List ℕ)} → group_for b q.group ≡ o → decide b q ≡ given o
        unfolding decide
        decided z = rw (h, le-leb q.level 1 l, fit) (ap given z)

        pub decide_none : r ≡ None → decide b q ≡ answer.Answered no_access
        decide_none e = decided (finds_none (finds_answering b q.group f) e)

        pub decide_by :
            {d : Decision} {n : ℕ} {roles : List (List ℕ)} (i : ℕ) → n ≡ q.level → q.roles ≡ roles → r ≡ Some i
            → d ≡ decision_by (question q.user q.host roles n q.readings) (group_rules b i)
            → decide b q ≡ answer.Answered d
        decide_by i x y e w =
            let z : group_for b q.group ≡ some (row (view b) access_groups i) = (finds_at i (finds_answering b q.group f) e).0 in
            decided z ∙ ap answer_of (sym (rw (x, ← y) at w))
