-- Refused questions and look-ups: when they are, and what they answer.
use Rattle.std.specs.Prelude.{◌≡◌, Bool, true, false, cond, List, [], ◌↔◌, ◌⊎◌, ℕ, ◌≤◌, ◌<◌, eqb, leb}
use Rattle.std.proofs.Math.Path.{refl}
use Rattle.std.proofs.Common.{sym, ap, inl, inr, arith, leb-true, ne_eqb}
use Rattle.std.proofs.Math.Option.{Option, none, some}
use Rattle.spec_lists.specs.Every.{Every}
use Rattle.spec_lists.proofs.laws.Every.{every_implies, every_take, every_drop, none_first, all_every}
use Rattle.spec_token.specs.Word.{greatest_letter}
use Rattle.spec_rule.specs.declared.Access.TheVariants as access
use Rattle.spec_rule.specs.declared.Stop.TheVariants.{Nothing}
use Rattle.spec_rule.specs.Roles.{RolesFit}
use Rattle.spec_rule.specs.Question.{Question}
use Rattle.spec_rule.specs.Answering.{greatest_level, answering}
use Rattle.spec_file.specs.Limit.{access_groups, inputs}
use Rattle.spec_table.specs.View.{view}
use Rattle.spec_table.specs.Table.{Table, inputs_run, letter_field}
use Rattle.spec_table.specs.Check.{is_table}
use Rattle.spec_table.specs.Policy.{name}
use Rattle.spec_table.proofs.laws.Table.{table_is}
use Rattle.spec_decision.specs.declared.Answer.{Answer}
use Rattle.spec_decision.specs.declared.Answer.TheVariants.{Answered, NotTable, BadLevel, BadRoles}
use Rattle.spec_decision.specs.declared.Found.{Found}
use Rattle.spec_decision.specs.declared.Found.TheVariants as found
use Rattle.spec_decision.specs.Decision.{number, access_in, trap_in, letter_in, answer_by, rules_for, decide}
use Rattle.spec_decision.specs.LookUp as found-by
use Rattle.spec_decision.specs.LookUp.{part_in, input_of, named_part, look_up}
use Rattle.spec_decision.proofs.laws.Answer.{never_no_table, by_level_is, by_roles_is}

pub refused_question_numbered : (b : List ℕ) (q : Question) (n : ℕ) → number (decide b q) ≡ some n → (n ≡ 20) ⊎ (n ≡ 21) ⊎ (n ≡ 26)
refused_question_numbered b q n e = by (decide b q) e
  where
    by : (a : Answer) → number a ≡ some n → (n ≡ 20) ⊎ (n ≡ 21) ⊎ (n ≡ 26)
    by (Answered d) h = let z : ◌≡◌ {A = ℕ} 0 1 = cc in absurd (omega arith)
    by NotTable h = inl (cc)
    by BadLevel h = inr (inl (cc))
    by BadRoles h = inr (inr (cc))

-- "NONE, no trap", and no letter
pub refused_grants_nothing :
    (b : List ℕ) (q : Question) (n : ℕ) → number (decide b q) ≡ some n
    → (access_in (decide b q) ≡ access.None) × (trap_in (decide b q) ≡ false) × (letter_in (decide b q) ≡ Nothing)
refused_grants_nothing b q n e = by (decide b q) e
  where
    by : (a : Answer) → number a ≡ some n → (access_in a ≡ access.None) × (trap_in a ≡ false) × (letter_in a ≡ Nothing)
    by (Answered d) h = let z : ◌≡◌ {A = ℕ} 0 1 = cc in absurd (omega arith)
    by NotTable h = (refl, refl, refl)
    by BadLevel h = (refl, refl, refl)
    by BadRoles h = (refl, refl, refl)

-- 20, 22: "the empty part"
pub refused_found_empty : (f : Found) (b : List ℕ) (n : ℕ) → found-by.number f ≡ some n → ((n ≡ 20) ⊎ (n ≡ 22)) × (part_in f b ≡ [])
refused_found_empty (found.Part at length) b n e = let z : ◌≡◌ {A = ℕ} 0 1 = cc in absurd (omega arith)
refused_found_empty found.NotTable b n e = (inl (cc), refl)
refused_found_empty found.NoInput b n e = (inr (cc), refl)

pub refused_look_up_empty :
    (b g : List ℕ) (letter n : ℕ) → found-by.number (look_up b g letter) ≡ some n
    → ((n ≡ 20) ⊎ (n ≡ 22)) × (part_in (look_up b g letter) b ≡ [])
refused_look_up_empty b g letter n e = refused_found_empty (look_up b g letter) b n e

-- ---- when a question is refused: 20, then 21, then 26

pub not_table_is : (b : List ℕ) (q : Question) → (decide b q ≡ NotTable) ↔ (Table b → ⊥)
unfolding decide
not_table_is b q = (λ e t. never_no_table q (rules_for (view b) q.group) (rw ((table_is b).1 t) at e), λ n. complete (is_table b) refl n)
  where
    complete : (t : Bool) → is_table b ≡ t → (Table b → ⊥) → cond t (answer_by q (rules_for (view b) q.group)) NotTable ≡ NotTable
    complete true e n = absurd (n ((table_is b).0 e))
    complete false e n = refl

module _ (b : List ℕ) (q : Question) where
  -- an answer but 20 is that of a table's rules
  pub of_table : (a : Answer) → (a ≡ NotTable → ⊥) → (decide b q ≡ a) ↔ (Table b × (answer_by q (rules_for (view b) q.group) ≡ a))
  unfolding decide
  of_table a n = (λ e. sound (is_table b) refl e, λ h. rw ((table_is b).1 h.0) h.1)
    where
      by_rules : Answer
      by_rules = answer_by q (rules_for (view b) q.group)

      sound : (t : Bool) → is_table b ≡ t → cond t by_rules NotTable ≡ a → Table b × (by_rules ≡ a)
      sound true t e = ((table_is b).0 t, e)
      sound false t e = absurd (n (sym e))

  level_not_table : BadLevel ≡ NotTable → ⊥
  level_not_table e = let z : ◌≡◌ {A = ℕ} 0 1 = cc in omega arith

  roles_not_table : BadRoles ≡ NotTable → ⊥
  roles_not_table e = let z : ◌≡◌ {A = ℕ} 0 1 = cc in omega arith

  pub bad_level_is : (decide b q ≡ BadLevel) ↔ (Table b × (greatest_level < q.level))
  bad_level_is =
      let t = of_table BadLevel level_not_table in
      let l = by_level_is q (rules_for (view b) q.group) in
      (λ e. ((t.0 e).0, l.0 (t.0 e).1), λ h. t.1 (h.0, l.1 h.1))

  pub bad_roles_is : (decide b q ≡ BadRoles) ↔ (Table b × (q.level ≤ greatest_level) × (RolesFit q.roles → ⊥))
  bad_roles_is =
      let t = of_table BadRoles roles_not_table in
      let f = by_roles_is q (rules_for (view b) q.group) in
      (λ e. let h = f.0 (t.0 e).1 in ((t.0 e).0, h.0, h.1), λ h. t.1 (h.0, f.1 (h.1, h.2)))

-- ---- the look-up of a letter

-- 22: "letter over 20"
pub letter_over : (b : List ℕ) → Table b → (g : List ℕ) (letter : ℕ) → greatest_letter < letter → look_up b g letter ≡ found.NoInput
unfolding look_up
letter_over b t g letter l = rw ((table_is b).1 t) (go (answering (name (view b) access_groups) g ((view b).records access_groups)))
  where
    other : (row : List ℕ) → leb (letter_field row) greatest_letter ≡ true → eqb (letter_field row) letter ≡ false
    other row h = ne_eqb (letter_field row) letter (λ e. omega (arith, leb-true (letter_field row) greatest_letter h))

    none_of : Every (λ row. eqb (letter_field row) letter ≡ false) ((view b).records inputs)
    none_of = every_implies other (all_every (λ row. leb (letter_field row) greatest_letter) ((view b).records inputs) t.letters)

    go : (o : Option (List ℕ)) → named_part inputs b (input_of (view b) letter o) ≡ found.NoInput
    go none = refl
    go (some row) =
        let r = inputs_run row in
        ap (named_part inputs b) (none_first (λ i. eqb (letter_field i) letter) (every_take r.count (every_drop r.first none_of)))
