-- The loops over the rules of a group, turn by turn; and that what they leave gives the group's decision.
use Rattle.std.specs.Prelude.{◌≡◌, refl, List, [], ◌∷◌, map, ℕ, suc, ◌+◌, ◌≤◌, ◌<◌, length, take, drop, set, get_or}
use Rattle.std.proofs.Common.{sym, ap, ◌∙◌, arith, ne_eqb}
use Rattle.std.proofs.lemmas.List.{length-map}
use Rattle.std.proofs.lemmas.List.Edits.{sets}
use Rattle.spec_lists.specs.Runs.{Run, part}
use Rattle.spec_lists.proofs.laws.Sets.{part_sets_all}
use Rattle.spec_calc.specs.declared.Reading.{Reading}
use Rattle.spec_rule.specs.declared.Verdict.{Verdict}
use Rattle.spec_rule.specs.Rule.{Rule, stands, outcome}
use Rattle.spec_rule.specs.Decision.{granted, decision_by}
use Rattle.spec_rule.specs.Verdict.{nothing_given, by_outcome, then, normal, settled}
use Rattle.spec_rule.specs.Kept.{bit, outcome_byte, byte_outcome, outcome_bytes, by_kept, kept_verdict, kept_decision}
use Rattle.spec_rule.proofs.laws.Decision.{nothing_then, failed, normal_normal, settled_end}
use Rattle.spec_rule.proofs.laws.Kept.{kept_is, outcome_bytes_enough, kept_turn}
use Rattle.spec_rule.proofs.laws.Walk.{list_on, part_on, mapped_on, mapped_end, sets_on}
use Rattle.spec_file.specs.Limit.{access_groups, rules, most}
use Rattle.spec_table.specs.View.{view}
use Rattle.spec_table.specs.Check.{rules_run}
use Rattle.spec_table.specs.Policy.{row}
use Rattle.table_read.specs.Stored.{Stored}
use Rattle.ask_rule.specs.Rules.{rule_at, question}
use Rattle.ask_checked.specs.Group.{group_rules}
use Rattle.ask_checked.specs.laws.Group.{group_counted, group_few, group_on, group_end}
use Rattle.ask_kept.specs.Kept.{client_bits, decision_kept}

-- ---- one rule: it does not stand, or it is tried

kept_none : (ks : List ℕ) (os : List ℕ) → kept_verdict ks os [] ≡ nothing_given
kept_none [] os = refl
kept_none (k ∷ ks) [] = refl
kept_none (k ∷ ks) (o ∷ os) = refl

module _ (v : Verdict) (k : ℕ) (o : ℕ) (r : Rule) where
  pub not_kept : k ≡ 0 → normal v ≡ v → v ≡ normal (then v (by_kept k o r))
  not_kept e s = sym (ap (λ (x : ℕ). normal (then v (by_kept x o r))) e ∙ failed v (granted r) s)

  pub kept_tried : {w : Verdict} → (k ≡ 0 → ⊥) → w ≡ normal (then v (by_outcome (byte_outcome o) (granted r))) → w ≡ normal (then v (by_kept k o r))
  kept_tried n e = e ∙ rw (ne_eqb k 0 n) refl

-- ---- all rules of a group

module _ (b : List ℕ) (i : ℕ) (h : Stored b access_groups i) where
  abbrev run : Run
  run = rules_run (row (view b) access_groups i)

  pub rules_few : run.count ≤ most rules
  rules_few = omega (arith, group_few b i h, group_counted b i h)

  -- what is stored for each rule
  module _ {A : Type 0} (g : Rule → A) (l : List A) (j k : ℕ) {x : List A} where
    pub stores_turn :
        {m : ℕ} {v : A} → k < run.count → suc j ≡ m → v ≡ g (rule_at b (run.first + k)) → x ≡ sets l j (drop k (map g (group_rules b i)))
        → x ≡ sets (set l j v) m (drop (k + 1) (map g (group_rules b i)))
    stores_turn {m} u y e z =
        z
        ∙ sets_on l j y (mapped_on g (group_rules b i) k (group_on b i h k u))
        ∙ ap (λ (a : A). sets (set l j a) m (drop (k + 1) (map g (group_rules b i)))) (sym e)

    pub stores_done : run.count ≤ k → x ≡ sets l j (drop k (map g (group_rules b i))) → l ≡ x
    stores_done u z = sym (z ∙ ap (sets l j) (mapped_end g (group_rules b i) k (group_end b i h k u)))

  -- what the rules give, from the k-th on
  module _ (kept : List ℕ) (at : ℕ) (os : List ℕ) (k : ℕ) (v : Verdict) where
    abbrev rest : ℕ → Verdict
    rest m =
        kept_verdict (drop m (part (record { first = at; count = length (group_rules b i) }) kept)) (drop m os) (drop m (group_rules b i))

    pub decision_turn :
        {w : Verdict} → k < run.count → at + most rules ≤ length kept → k < length os
        → w ≡ normal (then v (by_kept (get_or kept (at + k) 0) (get_or os k 0) (rule_at b (run.first + k))))
        → decision_kept b i kept at os ≡ settled (then v (rest k))
        → (normal w ≡ w) × (decision_kept b i kept at os ≡ settled (then w (rest (k + 1))))
    decision_turn u a t e z =
        let o = get_or kept (at + k) 0 in
        let y = get_or os k 0 in
        let r = rule_at b (run.first + k) in
        let x = group_counted b i h in (
          rw e (normal_normal (then v (by_kept o y r))),
          z
              ∙ kept_turn v
              (part_on (record { first = at; count = length (group_rules b i) }) kept 0 k (omega (arith, x, rules_few)) (omega (arith, x)))
              (list_on os 0 k t)
              (group_on b i h k u)
              e,
        )

    pub decision_done : run.count ≤ k → decision_kept b i kept at os ≡ settled (then v (rest k)) → settled v ≡ decision_kept b i kept at os
    decision_done u z =
        sym (
        z
        ∙ ap
        (λ (rs : List Rule).
        settled (then v (kept_verdict (drop k (part (record { first = at; count = length (group_rules b i) }) kept)) (drop k os) rs)))
        (group_end b i h k u)
        ∙ ap (λ (w : Verdict). settled (then v w)) (kept_none (drop k (part (record { first = at; count = length (group_rules b i) }) kept)) (drop k os))
        ∙ settled_end v
        )

  pub decision_begun : (kept : List ℕ) (at : ℕ) (os : List ℕ) → decision_kept b i kept at os
      ≡ settled (then nothing_given (kept_verdict (part (record { first = at; count = length (group_rules b i) }) kept) os (group_rules b i)))
  decision_begun kept at os =
      ap settled (sym (nothing_then (kept_verdict (part (record { first = at; count = length (group_rules b i) }) kept) os (group_rules b i))))

-- ---- what keep and calculate leave gives the group's decision

module _ (b : List ℕ) (i : ℕ) (h : Stored b access_groups i) (user host : List ℕ) (level : ℕ) where
  pub bits_count : length (client_bits b i user host level) ≡ length (group_rules b i)
  bits_count = length-map (group_rules b i) (λ r. bit (stands (question user host [] level []) r))

  pub kept_answers :
      (kept : List ℕ) (at : ℕ) (os : List ℕ) (rs : List Reading) → at + most rules ≤ length kept → most rules ≤ length os
      → decision_kept b i (sets kept at (client_bits b i user host level)) at (sets os 0 (outcome_bytes rs (group_rules b i)))
      ≡ decision_by (question user host [] level rs) (group_rules b i)
  kept_answers kept at os rs l m =
      let g = group_rules b i in
      let bits = client_bits b i user host level in
      let vs = outcome_bytes rs g in
      let n : length vs ≡ length g = length-map g (λ r. outcome_byte (outcome rs r.calculation)) in
      let few = group_few b i h in
      let x : part (record { first = at; count = length g }) (sets kept at bits) ≡ bits =
      ap (λ (k : ℕ). part (record { first = at; count = k }) (sets kept at bits)) (sym bits_count)
      ∙ part_sets_all bits kept at (omega (arith, bits_count)) in
      let y : take (length g) (sets os 0 vs) ≡ vs =
      ap (λ (k : ℕ). take k (sets os 0 vs)) (sym n) ∙ part_sets_all vs os 0 (omega arith) in
      ap (λ (ks : List ℕ). kept_decision ks (sets os 0 vs) g) x
      ∙ sym (outcome_bytes_enough (length g) bits (sets os 0 vs) g (omega arith))
      ∙ ap (λ (us : List ℕ). kept_decision bits us g) y
      ∙ kept_is (question user host [] level rs) g
