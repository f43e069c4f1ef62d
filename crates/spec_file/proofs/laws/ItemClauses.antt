-- THE LAWS of Contents over the items of a file and of an ASG. What Contents makes of a part looks at certain roles only (LooksAt), and in a
-- file of the grammar these stand behind the item's own name (Behind). So a part that runs past its brace finds nothing there that it takes.
use Rattle.std.specs.Prelude.{◌≡◌, refl, true, not, List, [], ◌∷◌, ◌++◌, map}
use Rattle.std.proofs.Common.{sym, ap, ap₂, ◌∙◌, append-nil}
use Rattle.std.proofs.Math.Option.{get_or}
use Rattle.spec_lists.specs.Select.{all, joined}
use Rattle.spec_lists.proofs.laws.Both.{both}
use Rattle.spec_lists.specs.Every.{Every}
use Rattle.spec_lists.proofs.laws.Every.{every_implies}
use Rattle.spec_token.specs.Word.{link_letter}
use Rattle.spec_grammar.specs.declared.Role.{Role}
use Rattle.spec_grammar.specs.declared.Role.TheVariants.{NoRole, UagName, User, HagName, Host, AsgName, Input, Pvname, RuleWord, UnknownItem, Level}
use Rattle.spec_grammar.specs.declared.Role.TheVariants.{Permission, LogOption, UagNamed, HagNamed, Calculation, UnknownPredicate}
use Rattle.spec_grammar.specs.Codes.{same_role}
use Rattle.spec_grammar.specs.Sentence.{Tagged}
use Rattle.spec_grammar.proofs.laws.Roles.{one_of, rule_roles, asg_roles}
use Rattle.spec_grammar.proofs.laws.Items.{Item, user_group, host_group, access_group, unknown, item, FileItems, AsgItem, input, rule, asg_item, AsgItems}
use Rattle.spec_file.specs.Contents.{text, texts, Clause, clauses, Group, Link, RuleText, head_of, groups, links, rule_text, asg}
use Rattle.spec_file.proofs.laws.Clauses.{LooksAt, same_selected, clauses_select, Behind, behind_append, behind_joined, behind_none, behind_test}
use Rattle.spec_file.proofs.laws.Clauses.{headed_behind, clauses_append, clauses_joined, clauses_none, says_nothing, apart, other_clauses}

-- ---- at which roles the definitions of Contents look

-- what Contents makes of a part: a group, an input, a rule (and an ASG, which it names)
abbrev pub group : Role → Clause → Group
group m p = record { name = text p.head; members = texts m p.body }

abbrev pub link : Clause → Link
link p = record { letter = link_letter (text p.head); name = get_or (head_of (texts Pvname p.body)) [] }

abbrev pub rule_of : Clause → RuleText
rule_of p = rule_text p.body

-- the rules that tokens say
abbrev pub rule_texts : List Tagged → List RuleText
rule_texts xs = map rule_of (clauses RuleWord xs)

pub group_looks : (m : Role) → one_of (m ∷ []) m ≡ true → LooksAt (m ∷ []) (group m)
group_looks m o x ys zs e =
    ap (λ (l : List Tagged). record { name = text x; members = map text l }) (same_selected (m ∷ []) m o ys zs e)

pub link_looks : LooksAt (Pvname ∷ []) link
link_looks x ys zs e =
    let same = same_selected (Pvname ∷ []) Pvname refl ys zs e in
    ap (λ (l : List Tagged). record { letter = link_letter (text x); name = get_or (head_of (map text l)) [] }) same

pub rule_looks : LooksAt rule_roles rule_of
rule_looks x ys zs e =
    rw (
      same_selected rule_roles Level refl ys zs e,
      same_selected rule_roles Permission refl ys zs e,
      same_selected rule_roles LogOption refl ys zs e,
      same_selected rule_roles UagNamed refl ys zs e,
      same_selected rule_roles HagNamed refl ys zs e,
      same_selected rule_roles Calculation refl ys zs e,
      same_selected rule_roles UnknownPredicate refl ys zs e,
    ) refl

pub asg_looks : LooksAt asg_roles asg
asg_looks x ys zs e =
    ap₂ (λ (i : List Link) (l : List RuleText). record { name = text x; inputs = i; rules = l })
    (same Input (Pvname ∷ []) link link_looks refl refl)
    (same RuleWord rule_roles rule_of rule_looks refl refl)
  where
    same :
        {B : Type 0} (r : Role) (rs : List Role) (f : Clause → B) → LooksAt rs f → one_of asg_roles r ≡ true → all (one_of asg_roles) rs ≡ true
        → map f (clauses r ys) ≡ map f (clauses r zs)
    same {B} r rs f looks o w =
        sym (clauses_select r rs f looks asg_roles o w ys) ∙ (ap (λ (l : List Tagged). map f (clauses r l)) e ∙ clauses_select r rs f looks asg_roles o w zs)

-- ---- what is made of the parts of an ASG, and of a file, is made of the parts of its items

module _ {B : Type 0} (r : Role) (rs : List Role) (f : Clause → B) (looks : LooksAt rs f) where
  asg_item_behind :
      behind_test r rs Input (Pvname ∷ []) ≡ true → behind_test r rs RuleWord rule_roles ≡ true → (i : List Tagged) → AsgItem i → Behind r rs i
  asg_item_behind a b i (input d h) = headed_behind r rs i a h
  asg_item_behind a b i (rule d h) = headed_behind r rs i b h

  pub asg_clauses :
      behind_test r rs Input (Pvname ∷ []) ≡ true → behind_test r rs RuleWord rule_roles ≡ true → apart (λ z. same_role z r) AsgName [] ≡ true
      → not (one_of rs NoRole) ≡ true → (xs : List Tagged) (o : AsgItems xs) → map f (clauses r xs) ≡ joined (map (λ i. map f (clauses r i)) o.items)
  asg_clauses a b w v xs o =
      ap of o.whole
      ∙ (clauses_append r rs f looks o.opening (inside ++ o.closing) (behind_append r rs inside o.closing (behind_joined r rs items) closing)
      ∙ (ap (λ (l : List Clause). map f l ++ of (inside ++ o.closing)) (other_clauses r o.opening w o.opened)
      ∙ (clauses_append r rs f looks inside o.closing closing
      ∙ (ap (λ (l : List Clause). of inside ++ map f l) no_clauses ∙ (append-nil (of inside) ∙ clauses_joined r rs f looks items)))))
    where
      of : List Tagged → List B
      of l = map f (clauses r l)

      inside : List Tagged
      inside = joined o.items

      items : Every (Behind r rs) o.items
      items = every_implies (λ i d. asg_item_behind a b i (asg_item i d)) o.each

      closing : Behind r rs o.closing
      closing = behind_none r rs (says_nothing (one_of rs) o.closing v o.closed)

      no_clauses : clauses r o.closing ≡ []
      no_clauses = clauses_none r (says_nothing (λ z. same_role z r) o.closing (both (not (same_role NoRole r)) _ w).0 o.closed)

  item_behind :
      behind_test r rs UagName (User ∷ []) ≡ true → behind_test r rs HagName (Host ∷ []) ≡ true → behind_test r rs AsgName asg_roles ≡ true
      → behind_test r rs UnknownItem [] ≡ true → (i : List Tagged) → Item i → Behind r rs i
  item_behind a b c d i (user_group e h) = headed_behind r rs i a h
  item_behind a b c d i (host_group e h) = headed_behind r rs i b h
  item_behind a b c d i (access_group e h) = headed_behind r rs i c h
  item_behind a b c d i (unknown e h) = headed_behind r rs i d h

  pub file_clauses :
      behind_test r rs UagName (User ∷ []) ≡ true → behind_test r rs HagName (Host ∷ []) ≡ true → behind_test r rs AsgName asg_roles ≡ true
      → behind_test r rs UnknownItem [] ≡ true → (xs : List Tagged) (o : FileItems xs)
      → map f (clauses r xs) ≡ joined (map (λ i. map f (clauses r i)) o.items)
  file_clauses a b c d xs o =
      ap (λ (l : List Tagged). map f (clauses r l)) (sym o.whole)
      ∙ clauses_joined r rs f looks (every_implies (λ i e. item_behind a b c d i (item i e)) o.each)

-- ---- the uses

module _ (xs : List Tagged) (o : AsgItems xs) where
  pub links_by_items : links xs ≡ joined (map links o.items)
  links_by_items = asg_clauses Input (Pvname ∷ []) link link_looks refl refl refl refl xs o

  pub rules_by_items : rule_texts xs ≡ joined (map rule_texts o.items)
  rules_by_items = asg_clauses RuleWord rule_roles rule_of rule_looks refl refl refl refl xs o

module _ (xs : List Tagged) (o : FileItems xs) where
  pub uags_by_items : groups UagName User xs ≡ joined (map (groups UagName User) o.items)
  uags_by_items = file_clauses UagName (User ∷ []) (group User) (group_looks User refl) refl refl refl refl xs o

  pub hags_by_items : groups HagName Host xs ≡ joined (map (groups HagName Host) o.items)
  hags_by_items = file_clauses HagName (Host ∷ []) (group Host) (group_looks Host refl) refl refl refl refl xs o

  pub asgs_by_items : map asg (clauses AsgName xs) ≡ joined (map (λ i. map asg (clauses AsgName i)) o.items)
  asgs_by_items = file_clauses AsgName asg_roles asg asg_looks refl refl refl refl xs o
