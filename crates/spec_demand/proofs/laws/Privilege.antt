-- The table of a file gives a question the decision that 001's steps give it by the file, and a letter the name that the file gives it.
use Rattle.std.specs.Prelude.{◌≡◌, refl, List, ◌++◌, map, ◌↔◌, ℕ, eqb}
use Rattle.std.proofs.Common.{sym, ap, ◌∙◌, arith}
use Rattle.std.proofs.Math.Option.{none, some}
use Rattle.spec_lists.specs.Select.{first}
use Rattle.spec_grammar.specs.Sentence.{Tagged}
use Rattle.spec_rule.specs.declared.Decision.{Decision}
use Rattle.spec_rule.specs.declared.Stop.TheVariants.{Letter}
use Rattle.spec_rule.specs.Question.{Question, Valid, reading_instead}
use Rattle.spec_rule.specs.Letter.{Tells}
use Rattle.spec_rule.specs.Decision.{decision_by}
use Rattle.spec_rule.proofs.laws.Privilege.{determined_is}
use Rattle.spec_rule.proofs.laws.Mended.{tells}
use Rattle.spec_file.specs.Contents.{File, file_of}
use Rattle.spec_file.specs.Meaning.{rule_in}
use Rattle.spec_file.specs.Acceptance.{Acceptable}
use Rattle.spec_edition.specs.Machine.{rules_later}
use Rattle.spec_table.specs.Written.{table_of}
use Rattle.spec_decision.specs.declared.Answer.TheVariants.{Answered}
use Rattle.spec_decision.specs.declared.Found.{Found}
use Rattle.spec_decision.specs.declared.Found.TheVariants.{Part, NotTable, NoInput}
use Rattle.spec_decision.specs.Decision.{access_in, decide}
use Rattle.spec_decision.specs.LookUp.{number, part_in, look_up, NamesInput}
use Rattle.spec_decision.specs.Privilege.{DeterminedByFile}
use Rattle.spec_decision.proofs.laws.Privilege.{answered_too}
use Rattle.spec_decision.proofs.laws.LookUp.{first_input_is}
use Rattle.spec_decision.proofs.laws.Answer.{by_rules_is}
use Rattle.spec_demand.specs.ByFile.{rules_by_file, answer_by_file, inputs_in, input_by_file, name_found}
use Rattle.spec_demand.proofs.laws.Exact.{answers_by_file, inputs_by_file}

module _ (f : File) (q : Question) (d : Decision) where
  steps : (decision_by q (map (rule_in f) (rules_by_file f q.group)) ≡ d) ↔ DeterminedByFile f q d
  steps = determined_is (λ a. a.name) (λ a. map (rule_in f) a.rules) (λ o. map (rule_in f) (rules_later o)) refl (λ g. refl) f.asgs q d

  answer_is : (answer_by_file f q ≡ Answered d) ↔ (Valid q × DeterminedByFile f q d)
  answer_is =
      let a = by_rules_is q (map (rule_in f) (rules_by_file f q.group)) d in
      (λ e. ((a.0 e).0, steps.0 (a.0 e).1), λ h. a.1 (h.0, steps.1 h.1))

pub by_file_is :
    (s : List ℕ) (xs : List Tagged) → Acceptable s xs → (rest : List ℕ) (q : Question) (d : Decision)
    → (decide (table_of (file_of xs) ++ rest) q ≡ Answered d) ↔ (Valid q × DeterminedByFile (file_of xs) q d)
by_file_is s xs a rest q d =
    let e = answers_by_file s xs a rest q in
    let i = answer_is (file_of xs) q d in
    (λ h. i.0 (sym e ∙ h), λ h. e ∙ i.1 h)

-- ---- the letter

pub tells_by_file :
    (s : List ℕ) (xs : List Tagged) → Acceptable s xs → (rest : List ℕ) (q : Question) (d : Decision) (i : ℕ)
    → let b = table_of (file_of xs) ++ rest in
    decide b q ≡ Answered d → d.letter ≡ Letter i
    → Tells (λ a. a.name) (λ a. map (rule_in (file_of xs)) a.rules) (file_of xs).asgs q d i (λ rs. access_in (decide b (reading_instead q rs)))
tells_by_file s xs a rest q d i e l =
    let b = table_of (file_of xs) ++ rest in
    tells
    (λ g. g.name)
    (λ g. map (rule_in (file_of xs)) g.rules)
    (file_of xs).asgs
    q
    ((by_file_is s xs a rest q d).0 e).1
    l
    (λ rs. access_in (decide b (reading_instead q rs)))
    (λ rs.
    let o = answered_too b q e rs in
    (o.0, ((by_file_is s xs a rest (reading_instead q rs) o.0).0 o.1).1, ap access_in o.1))

-- ---- the look-up

module _ (f : File) (g : List ℕ) (letter : ℕ) (n : List ℕ) where
  named_is : (input_by_file f g letter ≡ some n) ↔ NamesInput f g letter n
  named_is =
      first_input_is
      (λ a. a.name)
      (λ a. a.inputs)
      (λ l. l.letter)
      (λ l. l.name)
      f.asgs
      g
      letter
      n
      (λ o. first (λ l. eqb l.letter letter) (inputs_in o))
      refl
      (λ a. refl)

found_is : (x : Found) (b n : List ℕ) → ((number x ≡ none) × (part_in x b ≡ n)) ↔ (name_found x b ≡ some n)
found_is (Part at k) b n = (λ h. ap some h.1, λ e. (refl, cc))
found_is NotTable b n = (
  λ h. let e = h.0 in let z : ◌≡◌ {A = ℕ} 0 1 = cc in absurd (omega arith),
  λ e. let z : ◌≡◌ {A = ℕ} 0 1 = cc in absurd (omega arith),
)
found_is NoInput b n = (
  λ h. let e = h.0 in let z : ◌≡◌ {A = ℕ} 0 1 = cc in absurd (omega arith),
  λ e. let z : ◌≡◌ {A = ℕ} 0 1 = cc in absurd (omega arith),
)

pub input_is :
    (s : List ℕ) (xs : List Tagged) → Acceptable s xs → (rest g : List ℕ) (letter : ℕ) (n : List ℕ)
    → let b = table_of (file_of xs) ++ rest in
    ((number (look_up b g letter) ≡ none) × (part_in (look_up b g letter) b ≡ n)) ↔ NamesInput (file_of xs) g letter n
input_is s xs a rest g letter n =
    let b = table_of (file_of xs) ++ rest in
    let e = inputs_by_file s xs a rest g letter in
    let f = found_is (look_up b g letter) b n in
    let i = named_is (file_of xs) g letter n in
    (λ h. i.0 (sym e ∙ f.0 h), λ h. f.1 (e ∙ i.1 h))
