-- The functions of the later edition give what 01 says of it: each question has one access.
use Rattle.std.specs.Prelude.{◌≡◌, refl, Bool, true, false, cond, List, ◌↔◌}
use Rattle.std.proofs.Common.{sym, ap, subst, ◌∙◌}
use Rattle.std.proofs.lemmas.Bool.{false≢true}
use Rattle.std.proofs.Math.Option.{Option, none, some}
use Rattle.spec_lists.specs.Select.{all}
use Rattle.spec_lists.proofs.laws.Both.{both}
use Rattle.spec_lists.proofs.laws.Every.{every_all, all_every}
use Rattle.spec_grammar.specs.Sentence.{Tagged}
use Rattle.spec_rule.specs.declared.Access.{Access}
use Rattle.spec_rule.specs.declared.Access.TheVariants as access
use Rattle.spec_rule.specs.Question.{Question, Valid, valid}
use Rattle.spec_rule.specs.Rule.{asks}
use Rattle.spec_rule.specs.Answering.{answering}
use Rattle.spec_rule.specs.Privilege.{Some, Answers, Greatest}
use Rattle.spec_rule.proofs.laws.Roles.{valid_is}
use Rattle.spec_rule.proofs.laws.Asked.{asks_is}
use Rattle.spec_rule.proofs.laws.Privilege.{greatest_is, one_greatest, answering_is}
use Rattle.spec_file.specs.Contents.{RuleText, Asg, File, file_of}
use Rattle.spec_file.specs.Meaning.{rule_in}
use Rattle.spec_edition.specs.Edition.{Edition, PassesLater, Later, refused, by_group, by_no_group}
use Rattle.spec_edition.specs.Machine.{passes_later, rules_later, access_by_rules, access_later}

pub passes_later_is : (e : Edition) (q : Question) (f : File) (r : RuleText) → (passes_later e f q r ≡ true) ↔ PassesLater e q f r
passes_later_is e q f r = (
  λ h.
      let x = both (all (λ p. e p q) r.unknown) (asks (rule_in f r) q) h in
      record { yes = all_every (λ p. e p q) r.unknown x.0; asked = (asks_is q (rule_in f r)).0 x.1 },
  λ h. rw (every_all (λ p. e p q) h.yes) ((asks_is q (rule_in f r)).1 h.asked),
)

module _ (e : Edition) (xs : List Tagged) (q : Question) where
  abbrev found : Option Asg
  found = answering (λ a. a.name) q.group (file_of xs).asgs

  abbrev by_rules : Option Asg → Access
  by_rules o = access_by_rules e (file_of xs) q (rules_later o)

  given : (g : Asg) → Greatest (λ b. Some (λ r. PassesLater e q (file_of xs) r × (r.permission ≡ b)) g.rules) (by_rules (some g))
  given g = greatest_is (PassesLater e q (file_of xs)) (λ r. r.permission) (passes_later e (file_of xs) q) (passes_later_is e q (file_of xs)) g.rules

  by_answering : Valid q → (o : Option Asg) → Answers (λ a. a.name) q.group (file_of xs).asgs o → Later e xs q (by_rules o)
  by_answering l none w = by_no_group l w
  by_answering l (some g) w = by_group l w (given g)

  gives_later : Later e xs q (access_later e xs q)
  gives_later = go (valid q) refl
    where
      go : (b : Bool) → valid q ≡ b → Later e xs q (cond b (by_rules found) access.None)
      go true h = by_answering ((valid_is q).0 h) found ((answering_is (λ a. a.name) q.group (file_of xs).asgs found).0 refl)
      go false h = refused (λ v. false≢true (sym h ∙ (valid_is q).1 v))

  asked_for : {o : Option Asg} → Valid q → Answers (λ a. a.name) q.group (file_of xs).asgs o → access_later e xs q ≡ by_rules o
  asked_for {o = o} l w = rw ((valid_is q).1 l) (ap by_rules ((answering_is (λ a. a.name) q.group (file_of xs).asgs o).1 w))

  later_complete : {a : Access} → Later e xs q a → access_later e xs q ≡ a
  later_complete (refused n) = go (valid q) refl
    where
      go : (b : Bool) → valid q ≡ b → cond b (by_rules found) access.None ≡ access.None
      go true h = absurd (n ((valid_is q).0 h))
      go false h = refl
  later_complete (by_group {g = g} l w m) = asked_for l w ∙ one_greatest (given g) m
  later_complete (by_no_group l w) = asked_for l w

  pub edition_gives : (later : Access) × Later e xs q later
  edition_gives = (access_later e xs q, gives_later)

  pub later_is : (a : Access) → (access_later e xs q ≡ a) ↔ Later e xs q a
  later_is a = (λ h. subst (Later e xs q) h gives_later, later_complete)
