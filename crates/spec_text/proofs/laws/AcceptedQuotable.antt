-- Whatever text reads: every string of what it says can stand between quotes.
use Rattle.std.specs.Prelude.{List, [], ℕ}
use Rattle.spec_lists.specs.Every.{Every, nil, cons}
use Rattle.spec_lists.proofs.laws.Every.{every_implies, every_map}
use Rattle.spec_token.specs.Token.{BetweenQuotes, nothing}
use Rattle.spec_grammar.specs.declared.Role.{Role}
use Rattle.spec_grammar.specs.declared.Role.TheVariants.{UagName, User, HagName, Host, AsgName, Input, Pvname, RuleWord, UagNamed, HagNamed}
use Rattle.spec_grammar.specs.declared.Role.TheVariants.{Calculation}
use Rattle.spec_grammar.specs.Sentence.{Tagged}
use Rattle.spec_file.specs.Contents.{text, texts, head_of, groups, rule_text, asg, file_of}
use Rattle.spec_file.specs.Acceptance.{TextReads}
use Rattle.spec_file.proofs.laws.Counted.{every_clauses, every_texts, first_has}
use Rattle.spec_file.proofs.laws.ItemClauses.{group, link, rule_of}
use Rattle.spec_text.proofs.laws.Keeps.{CalculationOf, without, with, GroupOf, RuleOf, AsgOf, StringsOf, Quotable}
use Rattle.spec_text.proofs.laws.AcceptedTokens.{tokens_quotable}

-- what holds of every token's text, and of the empty one, holds of every string of the file
module _ (P : List ℕ → Type 0) (empty : P []) where
  abbrev TextHas : Tagged → Type 0
  TextHas x = P (text x)

  all_texts : (r : Role) {xs : List Tagged} → Every TextHas xs → Every P (texts r xs)
  all_texts r = every_texts r (λ x h p. p)

  calculation_text : {ts : List (List ℕ)} → Every P ts → CalculationOf P P (head_of ts)
  calculation_text nil = without
  calculation_text (cons p e) = with p

  groups_said : (n m : Role) {xs : List Tagged} → Every TextHas xs → Every (GroupOf P P) (groups n m xs)
  groups_said n m e = every_map (group m) (every_implies (λ p w. record { name = w.head; members = all_texts m w.body }) (every_clauses n e))

  rule_said : {xs : List Tagged} → Every TextHas xs → RuleOf P P (rule_text xs)
  rule_said e = record { uags = all_texts UagNamed e; hags = all_texts HagNamed e; calculation = calculation_text (all_texts Calculation e) }

  asgs_said : {xs : List Tagged} → Every TextHas xs → Every (AsgOf P P) (file_of xs).asgs
  asgs_said e =
      every_map asg
      (every_implies
      (λ p w.
      record {
        name = w.head;
        inputs = every_map link (every_implies (λ i v. first_has empty (all_texts Pvname v.body)) (every_clauses Input w.body));
        rules = every_map rule_of (every_implies (λ r v. rule_said v.body) (every_clauses RuleWord w.body));
      })
      (every_clauses AsgName e))

  strings_said : {xs : List Tagged} → Every TextHas xs → StringsOf P P (file_of xs)
  strings_said e = record { uags = groups_said UagName User e; hags = groups_said HagName Host e; asgs = asgs_said e }

pub quotable_said : {s : List ℕ} {xs : List Tagged} → TextReads s xs → Quotable (file_of xs)
quotable_said t = strings_said BetweenQuotes nothing (tokens_quotable t)
