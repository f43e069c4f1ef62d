-- In a file of the grammar the tokens that name groups stand in rules: what holds of every name that a rule gives holds of each of these tokens.
use Rattle.std.specs.Prelude.{◌≡◌, refl, Bool, true, false, not, List, [], ◌∷◌, map, ℕ}
use Rattle.std.proofs.Common.{sym, ◌∙◌}
use Rattle.std.proofs.lemmas.Bool.{false≢true}
use Rattle.spec_lists.specs.Select.{select, prepend_if}
use Rattle.spec_lists.specs.Every.{Every, nil, cons}
use Rattle.spec_lists.proofs.laws.Every.{every_append, every_implies, every_both, every_head, every_joined, every_unjoin}
use Rattle.spec_token.specs.Token.{Token}
use Rattle.spec_grammar.specs.declared.Role.{Role}
use Rattle.spec_grammar.specs.declared.Role.TheVariants.{NoRole, UagName, User, HagName, Host, AsgName, Input, Pvname, RuleWord, UagNamed, HagNamed}
use Rattle.spec_grammar.specs.declared.Role.TheVariants.{UnknownItem}
use Rattle.spec_grammar.specs.Codes.{same_role}
use Rattle.spec_grammar.specs.Production.{asconfig_item, asg_body_item}
use Rattle.spec_grammar.specs.Sentence.{Tagged, Reads}
use Rattle.spec_grammar.proofs.laws.Roles.{rule_roles, asg_roles}
use Rattle.spec_grammar.proofs.laws.Items as grammar
use Rattle.spec_grammar.proofs.laws.Items.{Is, file_items, AsgItems, asg_items}
use Rattle.spec_file.specs.Contents.{has_role, text, texts, RuleText, Asg, clauses, rule_text, asg, file_of}
use Rattle.spec_file.proofs.laws.Clauses.{apart, says_nothing, headed_never, own_clause}
use Rattle.spec_file.proofs.laws.ItemClauses.{rule_of, rule_texts, rule_looks, asg_looks, rules_by_items, asgs_by_items}

-- what a role may stand in: no group's own definition, no input, no unknown item
pub record InRules (q : Role) : Type 0 where
  pub uag : apart (λ z. same_role z q) UagName (User ∷ []) ≡ true
  pub hag : apart (λ z. same_role z q) HagName (Host ∷ []) ≡ true
  pub item : apart (λ z. same_role z q) UnknownItem [] ≡ true
  pub opening : apart (λ z. same_role z q) AsgName [] ≡ true
  pub input : apart (λ z. same_role z q) Input (Pvname ∷ []) ≡ true
  pub closing : not (same_role NoRole q) ≡ true

-- the names that a rule gives, which have the role q
module _ (q : Role) (t : InRules q) (names : RuleText → List (List ℕ)) (same : (ys : List Tagged) → names (rule_text ys) ≡ texts q ys) (P : List ℕ → Type 0) where
  -- if a token has the role, its text has the property
  abbrev Has : Tagged → Type 0
  Has x = has_role q x ≡ true → P (text x)

  has_texts : (xs : List Tagged) → Every P (texts q xs) → Every Has xs
  has_texts [] e = nil
  has_texts (x ∷ xs) e = go (has_role q x) refl e (has_texts xs)
    where
      go :
          (b : Bool) → has_role q x ≡ b → Every P (map text (prepend_if b x (select (has_role q) xs))) → (Every P (texts q xs) → Every Has xs)
          → Every Has (x ∷ xs)
      go true h (cons p e) ih = cons (λ k. p) (ih e)
      go false h e ih = cons (λ k. absurd (false≢true (sym h ∙ k))) (ih e)

  none_has : {xs : List Tagged} → Every (λ x. has_role q x ≡ false) xs → Every Has xs
  none_has = every_implies (λ x e k. absurd (false≢true (sym e ∙ k)))

  abbrev RuleHas : RuleText → Type 0
  RuleHas r = Every P (names r)

  asg_item_has : (i : List Tagged) → Is asg_body_item i → Every RuleHas (rule_texts i) → Every Has i
  asg_item_has i d e = go (grammar.asg_item i d)
    where
      go : grammar.AsgItem i → Every Has i
      go (grammar.input d h) = none_has (headed_never (λ z. same_role z q) i t.input h)
      go (grammar.rule d h) =
          let o = own_clause RuleWord rule_roles rule_of rule_looks i refl refl h in
          has_texts i (rw (same i) at (every_head (rw o.clauses at e)))

  asg_has : (i : List Tagged) (o : AsgItems i) → Every RuleHas (rule_texts i) → Every Has i
  asg_has i o e =
      let each = every_unjoin rule_texts o.items (rw (rules_by_items i o) at e) in
      rw o.whole
      (every_append
      (none_has (headed_never (λ z. same_role z q) o.opening t.opening o.opened))
      (every_append
      (every_joined (every_both asg_item_has o.each each))
      (none_has (says_nothing (λ z. same_role z q) o.closing t.closing o.closed))))

  abbrev AsgHas : Asg → Type 0
  AsgHas a = Every RuleHas a.rules

  item_has : (i : List Tagged) → Is asconfig_item i → Every AsgHas (map asg (clauses AsgName i)) → Every Has i
  item_has i d e = go (grammar.item i d)
    where
      go : grammar.Item i → Every Has i
      go (grammar.user_group d h) = none_has (headed_never (λ z. same_role z q) i t.uag h)
      go (grammar.host_group d h) = none_has (headed_never (λ z. same_role z q) i t.hag h)
      go (grammar.unknown d h) = none_has (headed_never (λ z. same_role z q) i t.item h)
      go (grammar.access_group d h) =
          let o = own_clause AsgName asg_roles asg asg_looks i refl refl h in
          asg_has i (asg_items i d) (every_head (rw o.clauses at e))

  pub named_in_rules : (ts : List Token) (xs : List Tagged) → Reads ts xs → Every AsgHas (file_of xs).asgs → Every Has xs
  named_in_rules ts xs r e =
      let o = file_items xs r.derived in
      let each = every_unjoin (λ i. map asg (clauses AsgName i)) o.items (rw (asgs_by_items xs o) at e) in
      rw (← o.whole) (every_joined (every_both item_has o.each each))

pub uag_in_rules : InRules UagNamed
uag_in_rules = record { uag = refl; hag = refl; item = refl; opening = refl; input = refl; closing = refl }

pub hag_in_rules : InRules HagNamed
hag_in_rules = record { uag = refl; hag = refl; item = refl; opening = refl; input = refl; closing = refl }
