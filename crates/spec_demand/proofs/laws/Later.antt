-- From a file's text to the access at every question, against every later edition.
use Rattle.std.specs.Prelude.{◌≡◌, refl, Bool, true, false, cond, ◌&&◌, List, [], ◌∷◌, map, ℕ, ◌≤◌, length, drop}
use Rattle.std.proofs.Common.{sym, ap, subst, ◌∙◌, le_refl}
use Rattle.std.proofs.Math.Option.{Option, none, some}
use Rattle.spec_lists.specs.Text.{same}
use Rattle.spec_lists.specs.Select.{select, prepend_if, first, first_if}
use Rattle.spec_lists.specs.Every.{Every, nil, cons}
use Rattle.spec_lists.proofs.laws.Every.{every_map, every_implies}
use Rattle.spec_token.specs.Token.{Token}
use Rattle.spec_token.proofs.laws.Theorem.{one_spelling}
use Rattle.spec_grammar.specs.declared.Role.TheVariants.{AsgName, RuleWord, UnknownPredicate}
use Rattle.spec_grammar.specs.Sentence.{Tagged, Reads}
use Rattle.spec_grammar.proofs.laws.Theorem.{one_parse}
use Rattle.spec_calc.specs.declared.Reading.{Reading}
use Rattle.spec_calc.specs.Readings.{GoneBad}
use Rattle.spec_rule.specs.declared.Access.{Access}
use Rattle.spec_rule.specs.declared.Access.TheVariants as access
use Rattle.spec_rule.specs.Roles.{roles_fit}
use Rattle.spec_rule.specs.Question.{Question, reading_instead}
use Rattle.spec_rule.specs.Rule.{rank}
use Rattle.spec_rule.specs.Answering.{a_level, answering, named, or_default, default_name}
use Rattle.spec_file.proofs.laws.Counted.{every_clauses}
use Rattle.spec_file.specs.Contents.{has_role, place, clauses, asg, rule_text, file_of, Clause, Asg}
use Rattle.spec_file.specs.Meaning.{rule_in}
use Rattle.spec_file.specs.Acceptance.{TextReads}
use Rattle.spec_file.proofs.laws.Theorem.{accepted_is}
use Rattle.spec_table.specs.Written.{table_of}
use Rattle.spec_table.proofs.laws.Accepted.{fits}
use Rattle.spec_load.specs.Load.{load}
use Rattle.spec_decision.specs.Decision.{access_in, decide}
use Rattle.spec_decision.proofs.laws.Answer.{tested}
use Rattle.spec_edition.specs.Edition.{SaysNo, Edition, Later}
use Rattle.spec_edition.specs.Machine.{rules_later, access_by_rules, access_later}
use Rattle.spec_edition.proofs.laws.Agreement.{later_is}
use Rattle.spec_edition.proofs.laws.Later.{access_never_above, access_alike}
use Rattle.spec_demand.specs.Calls.{Call, ask_checked, after_calls, is_accepted, NoAcceptedLoad}
use Rattle.spec_demand.specs.ByFile.{rules_by_file, answer_by_file}
use Rattle.spec_demand.proofs.laws.Loaded.{Stored, stored, calls_leave, decided}

-- ---- an edition that says no

every_selected : {Q : Tagged → Type 0} (p : Tagged → Bool) {xs : List Tagged} → Every (λ x. p x ≡ true → Q x) xs → Every Q (select p xs)
every_selected p nil = nil
every_selected {Q} p (cons {x = x} {xs = xs} h c) = by (p x) h (every_selected p c)
  where
    by : (b : Bool) → (b ≡ true → Q x) → Every Q (select p xs) → Every Q (prepend_if b x (select p xs))
    by true f d = cons (f refl) d
    by false f d = d

-- a property of the one that there may be
abbrev Given : {G : Type 0} → (G → Type 0) → Option G → Type 0
Given P none = Unit {0}
Given P (some g) = P g

first_given : {G : Type 0} {P : G → Type 0} (p : G → Bool) {gs : List G} → Every P gs → Given P (first p gs)
first_given p nil = tt
first_given {P = P} p (cons {x = x} {xs = xs} h c) = by (p x) (first_given p c)
  where
    by : (b : Bool) → Given P (first p xs) → Given P (first_if b x (first p xs))
    by true d = h
    by false d = d

answering_given : {G : Type 0} {P : G → Type 0} (name : G → List ℕ) (n : List ℕ) {gs : List G} → Every P gs → Given P (answering name n gs)
answering_given name [] e = first_given (λ g. same (name g) default_name) e
answering_given {P = P} name (b ∷ n) {gs = gs} e = by (named name (b ∷ n) gs) (first_given (λ g. same (name g) (b ∷ n)) e)
  where
    by : (o : Option _) → Given P o → Given P (or_default name o gs)
    by none d = first_given (λ g. same (name g) default_name) e
    by (some g) d = d

module _ (e : Edition) (q : Question) where
  rule_denied : (ys : List Tagged) → SaysNo e q ys → Every (λ p. e p q ≡ false) (rule_text ys).unknown
  rule_denied ys h = every_map place (every_selected (has_role UnknownPredicate) h)

  rules_denied :
      (ys : List Tagged) → SaysNo e q ys → Every (λ r. Every (λ p. e p q ≡ false) r.unknown) (map (λ r. rule_text r.body) (clauses RuleWord ys))
  rules_denied ys h = every_map (λ (r : Clause). rule_text r.body) (every_implies (λ r w. rule_denied r.body w.body) (every_clauses RuleWord h))

  denied : (xs : List Tagged) → SaysNo e q xs → (g : List ℕ) → Every (λ r. Every (λ p. e p q ≡ false) r.unknown) (rules_by_file (file_of xs) g)
  denied xs h g = by (answering (λ a. a.name) g (file_of xs).asgs) (answering_given (λ (a : Asg). a.name) g asgs)
    where
      asgs : Every (λ a. Every (λ r. Every (λ p. e p q ≡ false) r.unknown) a.rules) (file_of xs).asgs
      asgs = every_map asg (every_implies (λ a w. rules_denied a.body w.body) (every_clauses AsgName h))

      by :
          (o : Option Asg) → Given (λ a. Every (λ r. Every (λ p. e p q ≡ false) r.unknown) a.rules) o
          → Every (λ r. Every (λ p. e p q ≡ false) r.unknown) (rules_later o)
      by none d = nil
      by (some a) d = d

-- ---- by the file's rules

module _ (e : Edition) (xs : List Tagged) (q : Question) where
  never_above_by_file :
      (rs : List Reading) → GoneBad q.readings rs → rank (access_in (answer_by_file (file_of xs) (reading_instead q rs))) ≤ rank (access_later e xs q)
  never_above_by_file rs g = by (a_level q.level) (roles_fit q.roles)
    where
      by :
          (l f : Bool)
          → rank (access_in (tested (reading_instead q rs) (map (rule_in (file_of xs)) (rules_by_file (file_of xs) q.group)) l f))
          ≤ rank (cond (l && f) (access_by_rules e (file_of xs) q (rules_by_file (file_of xs) q.group)) access.None)
      by true true = access_never_above e (file_of xs) q rs g (rules_by_file (file_of xs) q.group)
      by true false = le_refl 0
      by false f = le_refl 0

  alike_by_file : SaysNo e q xs → access_in (answer_by_file (file_of xs) q) ≡ access_later e xs q
  alike_by_file h = by (a_level q.level) (roles_fit q.roles)
    where
      by :
          (l f : Bool)
          → access_in (tested q (map (rule_in (file_of xs)) (rules_by_file (file_of xs) q.group)) l f)
          ≡ cond (l && f) (access_by_rules e (file_of xs) q (rules_by_file (file_of xs) q.group)) access.None
      by true true = access_alike e (file_of xs) q (rules_by_file (file_of xs) q.group) (denied e q xs h q.group)
      by true false = refl
      by false f = refl

-- ---- from the load to the question

-- the text of an accepted load says what was accepted
same_tagged : (lent s : List ℕ) (xs : List Tagged) (w : Stored lent s) → TextReads s xs → w.said ≡ xs
same_tagged lent s xs w t =
    let a = (accepted_is s w.said w.accepted).as_read in
    let same : a.spelled ≡ t.spelled = cc (one_spelling a.spelling t.spelling) in
    one_parse t.spelled w.said xs (subst (λ (ts : List Token). Reads ts w.said) same a.reading) t.reading

-- after an accepted load, whatever calls come before the next one, a question is answered by the rules of the text
pub answered_by_text :
    (lent s : List ℕ) → is_accepted (load lent s).answer ≡ true → (xs : List Tagged) → TextReads s xs
    → (between : List Call) → NoAcceptedLoad (load lent s).bytes between
    → (q : Question) → decide (after_calls (load lent s).bytes between) q ≡ answer_by_file (file_of xs) q
answered_by_text lent s h xs t between n q =
    let w = stored lent s h in
    ap (λ (b : List ℕ). decide b q) (calls_leave (load lent s).bytes between n ∙ w.bytes)
    ∙ decided (file_of w.said) (fits s w.said w.accepted) (drop (length (table_of (file_of w.said))) lent) q
    ∙ ap (λ (ys : List Tagged). answer_by_file (file_of ys) q) (same_tagged lent s xs w t)

module _
    (lent s : List ℕ) (h : is_accepted (load lent s).answer ≡ true) (xs : List Tagged) (t : TextReads s xs)
    (between : List Call) (n : NoAcceptedLoad (load lent s).bytes between)
    (e : Edition) (q : Question) (later : Access) (given : Later e xs q later) where
  pub never_above :
      (rs : List Reading) → GoneBad q.readings rs
      → rank (access_in (decide (after_calls (load lent s).bytes between) (reading_instead q rs))) ≤ rank later
  never_above rs g =
      rw (answered_by_text lent s h xs t between n (reading_instead q rs), sym ((later_is e xs q later).1 given)) (never_above_by_file e xs q rs g)

  pub exactly_equal : SaysNo e q xs → access_in (decide (after_calls (load lent s).bytes between) q) ≡ later
  exactly_equal d = ap access_in (answered_by_text lent s h xs t between n q) ∙ alike_by_file e xs q d ∙ (later_is e xs q later).1 given

-- ---- a load, then questions only

pub questions_leave : (b : List ℕ) (qs : List Question) → after_calls b (map ask_checked qs) ≡ b
questions_leave b [] = refl
questions_leave b (q ∷ qs) = questions_leave b qs

-- The asker: a load, then question after question on what it left. Each answer is never more than any edition's, whatever was asked before; and exactly
-- that of an edition that says no to every unknown predicate.
module _
    (lent s : List ℕ) (h : is_accepted (load lent s).answer ≡ true) (xs : List Tagged) (t : TextReads s xs)
    (e : Edition) (q : Question) (later : Access) (given : Later e xs q later) where
  pub asked_never_more :
      ((worse : List Reading) → GoneBad q.readings worse
      → rank (access_in (decide (load lent s).bytes (reading_instead q worse))) ≤ rank later)
      × (SaysNo e q xs → access_in (decide (load lent s).bytes q) ≡ later)
  asked_never_more = (never_above lent s h xs t [] tt e q later given, exactly_equal lent s h xs t [] tt e q later given)
