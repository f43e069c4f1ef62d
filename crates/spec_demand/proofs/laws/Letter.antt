-- The letter of an answer has an input in the group that answers.
use Rattle.std.specs.Prelude.{◌≡◌, refl, true, List, ◌++◌, ◌↔◌, ℕ, eqb}
use Rattle.std.proofs.Math.Option.{Option, none, some}
use Rattle.std.proofs.Common.{eqb-true, eq-eqb}
use Rattle.spec_lists.specs.Select.{first}
use Rattle.spec_lists.specs.Every.{Every, cons, nil}
use Rattle.spec_lists.proofs.laws.Every.{every_map, every_head, every_split}
use Rattle.spec_lists.proofs.laws.Member.{every_member}
use Rattle.spec_grammar.specs.Sentence.{Tagged}
use Rattle.spec_rule.specs.declared.Decision.{Decision}
use Rattle.spec_rule.specs.declared.Stop.TheVariants.{Letter}
use Rattle.spec_rule.specs.Question.{Question}
use Rattle.spec_rule.specs.Privilege.{Some, here, further, FirstSuch, Answers, by_name, by_default}
use Rattle.spec_rule.proofs.laws.Such.{first_such, no_first}
use Rattle.spec_file.specs.Contents.{Link, file_of}
use Rattle.spec_file.specs.Meaning.{rule_in}
use Rattle.spec_file.specs.Acceptance.{Acceptable}
use Rattle.spec_file.proofs.laws.Inputs.{HasInputs, letters_have_inputs}
use Rattle.spec_table.specs.Written.{table_of}
use Rattle.spec_decision.specs.declared.Answer.TheVariants.{Answered}
use Rattle.spec_decision.specs.Decision.{decide}
use Rattle.spec_decision.specs.LookUp.{NamesInput}
use Rattle.spec_demand.proofs.laws.Privilege.{tells_by_file}

-- what holds of all holds of the first that has P
such_has : {A : Type 0} {P Q : A → Type 0} {xs : List A} {x : A} → Every Q xs → FirstSuch P xs x → Q x
such_has e f = every_head (every_split f.earlier (rw f.among at e)).1

-- and of the group that answers
answering_has : {G : Type 0} {Q : G → Type 0} (name : G → List ℕ) {n : List ℕ} {gs : List G} {g : G} → Every Q gs → Answers name n gs (some g) → Q g
answering_has name e (by_name n f) = such_has e f
answering_has name e (by_default n f) = such_has e f

-- what holds of none does not hold of some
not_some : {A : Type 0} {P : A → Type 0} {xs : List A} → Every (λ x. P x → ⊥) xs → Some P xs → ⊥
not_some nil s = elim s [ ]
not_some (cons n c) (here h) = n h
not_some (cons n c) (further s) = not_some c s

-- if some input has the letter i, one is the first
first_input : (i : ℕ) (ls : List Link) → Some (λ l. l.letter ≡ i) ls → (l : Link) × FirstSuch (λ k. k.letter ≡ i) ls l
first_input i ls s = go (first (λ l. eqb l.letter i) ls) refl
  where
    lettered : (l : Link) → (eqb l.letter i ≡ true) ↔ (l.letter ≡ i)
    lettered l = (eqb-true l.letter i, eq-eqb l.letter i)

    go : (o : Option Link) → first (λ l. eqb l.letter i) ls ≡ o → (l : Link) × FirstSuch (λ k. k.letter ≡ i) ls l
    go none e = absurd (not_some (no_first (λ l. eqb l.letter i) lettered ls e) s)
    go (some l) e = (l, first_such (λ k. eqb k.letter i) lettered ls l e)

-- the letter stands in the calculation of a rule of the group, and so has an input there
pub letter_named :
    (s : List ℕ) (xs : List Tagged) → Acceptable s xs → (rest : List ℕ) (q : Question) (d : Decision) (i : ℕ)
    → decide (table_of (file_of xs) ++ rest) q ≡ Answered d → d.letter ≡ Letter i → (n : List ℕ) × NamesInput (file_of xs) q.group i n
letter_named s xs a rest q d i e l =
    let t = tells_by_file s xs a rest q d i e l in
    let g = t.group in
    let p = t.stopped in
    let given = answering_has (λ a. a.name) (letters_have_inputs s xs a) t.searched in
    let rules = every_map {P = λ r. (c : List ℕ) → r.calculation ≡ some c → HasInputs g.inputs c} (rule_in (file_of xs)) given in
    let inputs = such_has rules t.first p.calculation p.has p.bad.tree p.bad.says in
    let f = first_input i g.inputs (every_member inputs p.bad.letter.among) in
    (f.0.name, record { group = g; searched = t.searched; input = f.0; first = f.1; has = refl })
