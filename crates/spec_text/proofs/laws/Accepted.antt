-- What a text without a cause for a refusal says has no fault, whatever text it is and however long, unless it defines nothing.
use Rattle.std.specs.Prelude.{◌≡◌, refl, true, false, not, List, [], map, ℕ, eqb}
use Rattle.std.proofs.Common.{sym, ap, ◌∙◌, eqb-true, eq-eqb}
use Rattle.std.proofs.Math.Option.{Option, none, some}
use Rattle.spec_lists.specs.Select.{any, holds_of, missing}
use Rattle.spec_lists.specs.Every.{Every}
use Rattle.spec_lists.proofs.laws.Any.{any_map, none_any}
use Rattle.spec_lists.proofs.laws.Every.{every_implies, every_both, every_map, every_all}
use Rattle.spec_calc.specs.Expression.{Tree}
use Rattle.spec_calc.specs.Reader.{tree_of}
use Rattle.spec_calc.proofs.laws.Theorem.{parses_sound}
use Rattle.spec_rule.specs.Privilege.{Some}
use Rattle.spec_rule.proofs.laws.Such.{some_any}
use Rattle.spec_grammar.specs.declared.Role.TheVariants.{AsgName, RuleWord, Calculation}
use Rattle.spec_grammar.specs.Sentence.{Tagged}
use Rattle.spec_file.specs.declared.Refusal.{Refusal}
use Rattle.spec_file.specs.declared.Refusal.TheVariants.{UndefinedGroup, BadCalculation}
use Rattle.spec_file.specs.Contents.{has_role, text, Group, Link, RuleText, Asg, File, asg, file_of}
use Rattle.spec_file.specs.Refusal.{contexts, letters_among}
use Rattle.spec_file.specs.Acceptance.{TextReads, Nowhere}
use Rattle.spec_file.specs.Defined.{Defined, NamesDefined}
use Rattle.spec_file.proofs.laws.Causes.{unanswered}
use Rattle.spec_file.proofs.laws.Counted.{every_clauses, every_texts, every_here, calculated, Clear, clear}
use Rattle.spec_file.proofs.laws.Defined.{defined_exactly}
use Rattle.spec_file.proofs.laws.Inputs.{HasInputs, head_has, inputs_given}
use Rattle.spec_file.proofs.laws.ItemClauses.{rule_of}
use Rattle.spec_text.specs.Faults.{nowhere_defined, calculation_faulty, rule_faulty, letters_of, asg_faulty, defines_nothing, faulty}
use Rattle.spec_text.proofs.laws.ClearFaults.{defined_is}
use Rattle.spec_text.proofs.laws.AcceptedOnce.{Once, given_once}

-- ---- groups

defined_somewhere : (gs : List Group) (s : List ℕ) → Defined gs s → nowhere_defined gs s ≡ false
defined_somewhere gs s d = ap not ((defined_is gs s).1 d)

-- ---- calculations

-- a rule's calculation is one
abbrev RuleCalculated : RuleText → Type 0
RuleCalculated r = (s : List ℕ) → r.calculation ≡ some s → missing (tree_of s) ≡ false

trees : (xs : List Tagged) → Every (λ x. has_role Calculation x ≡ true → missing (tree_of (text x)) ≡ false) xs → Every (λ a. Every RuleCalculated a.rules) (file_of xs).asgs
trees xs e =
    every_map asg
    (every_implies
    (λ p w. every_map rule_of (every_implies (λ r v. head_has (every_texts Calculation (λ x h k. k h) v.body)) (every_clauses RuleWord w.body)))
    (every_clauses AsgName e))

letter_among : (ls : List Link) (i : ℕ) → Some (λ l. l.letter ≡ i) ls → any (eqb i) (map (λ l. l.letter) ls) ≡ true
letter_among ls i d =
    any_map (eqb i) (λ l. l.letter) ls
    ∙ some_any (λ l. eqb i l.letter) (λ l. (λ h. sym (eqb-true i l.letter h), λ e. eq-eqb i l.letter (sym e))) d

calculation_faultless :
    (ls : List Link) (o : Option (List ℕ)) → ((s : List ℕ) → o ≡ some s → missing (tree_of s) ≡ false) → ((s : List ℕ) → o ≡ some s → HasInputs ls s)
    → calculation_faulty (map (λ l. l.letter) ls) o ≡ false
calculation_faultless ls none f g = refl
calculation_faultless ls (some s) f g = go (tree_of s) refl (f s refl)
  where
    go : (o : Option Tree) → tree_of s ≡ o → missing o ≡ false → not (holds_of o (letters_among (map (λ l. l.letter) ls))) ≡ false
    go none e m = m
    go (some t) e m = rw (every_all _ (every_implies (letter_among ls) (g s refl t (parses_sound s t e))))

-- ---- the file

module _ (f : File) (a : Asg) where
  -- a rule whose groups are defined, and whose calculation has a tree and its inputs
  rule_faultless :
      (r : RuleText) → NamesDefined f r → RuleCalculated r → ((s : List ℕ) → r.calculation ≡ some s → HasInputs a.inputs s)
      → rule_faulty f (letters_of a) r ≡ false
  rule_faultless r n t g =
      rw (
        none_any (nowhere_defined f.uags) (every_implies (defined_somewhere f.uags) n.users),
        none_any (nowhere_defined f.hags) (every_implies (defined_somewhere f.hags) n.hosts),
        calculation_faultless a.inputs r.calculation t g,
      )

-- the causes leave no fault; of a text's length nothing is asked
pub faultless :
    {s : List ℕ} {xs : List Tagged} → TextReads s xs → ((r : Refusal) → Nowhere r (contexts xs)) → defines_nothing (file_of xs) ≡ false
    → faulty (file_of xs) ≡ false
faultless {xs = xs} t w d = rw (d, once.uags, once.hags, once.asgs) (none_any (asg_faulty (file_of xs)) asgs)
  where
    no_cause : Clear (contexts xs)
    no_cause = clear (contexts xs) (unanswered (contexts xs) w)

    once : Once xs
    once = given_once t no_cause.once

    trees_said : Every (λ a. Every RuleCalculated a.rules) (file_of xs).asgs
    trees_said = trees xs (every_here [] xs (every_implies calculated no_cause.calculations))

    defined_and_calculated : Every (λ a. Every (λ r. NamesDefined (file_of xs) r × RuleCalculated r) a.rules) (file_of xs).asgs
    defined_and_calculated = every_both (λ a. every_both (λ r n t. (n, t))) ((defined_exactly xs t).0 (w UndefinedGroup)) trees_said

    rules : Every (λ a. Every (λ r. rule_faulty (file_of xs) (letters_of a) r ≡ false) a.rules) (file_of xs).asgs
    rules = every_both (λ a. every_both (λ r k g. rule_faultless (file_of xs) a r k.0 k.1 g)) defined_and_calculated (inputs_given xs (w BadCalculation))

    asgs : Every (λ a. asg_faulty (file_of xs) a ≡ false) (file_of xs).asgs
    asgs = every_both (λ a e rs. rw e (none_any (rule_faulty (file_of xs) (letters_of a)) rs)) once.letters rules
