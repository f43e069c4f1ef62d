-- What the text of a file says is the file, the places of its unknown predicates aside.
use Rattle.std.specs.Prelude.{◌≡◌, refl, Bool, true, false, List, [], ◌∷◌, ◌++◌, map, ℕ, ◌≤◌}
use Rattle.std.proofs.Common.{ap, ap₂, ◌∙◌, append-nil}
use Rattle.std.proofs.Math.Option.{Option, none, some, get_or}
use Rattle.spec_lists.specs.Text.{bytes}
use Rattle.spec_lists.specs.Select.{select, joined, nonempty}
use Rattle.spec_lists.specs.Every.{Every, nil, cons}
use Rattle.spec_lists.proofs.laws.Both.{neither}
use Rattle.spec_lists.proofs.laws.Every.{every_append, every_implies}
use Rattle.spec_lists.proofs.laws.Joined.{map_map}
use Rattle.spec_rule.specs.declared.Access.{Access}
use Rattle.spec_rule.specs.declared.Access.TheVariants as access
use Rattle.spec_rule.specs.Answering.{greatest_level}
use Rattle.spec_grammar.specs.declared.Role.{Role}
use Rattle.spec_grammar.specs.declared.Role.TheVariants.{UagName, User, HagName, Host, AsgName, Input, Pvname, RuleWord, UagNamed, HagNamed}
use Rattle.spec_grammar.specs.declared.Role.TheVariants.{Calculation, UnknownPredicate}
use Rattle.spec_grammar.specs.Codes.{same_role}
use Rattle.spec_grammar.specs.Sentence.{Tagged}
use Rattle.spec_grammar.proofs.laws.Roles.{one_of, rule_roles, asg_roles}
use Rattle.spec_file.specs.Contents.{head_of, has_role, texts, Clause, clauses, Group, Link, RuleText, Asg, File, groups, rule_text, asg, file_of}
use Rattle.spec_file.specs.Meaning.{switched_off}
use Rattle.spec_file.proofs.laws.Clauses.{LooksAt, Behind, clauses_none, until_all, behind_append, behind_none, clauses_append}
use Rattle.spec_file.proofs.laws.ItemClauses.{group, link, rule_of, group_looks, link_looks, rule_looks, asg_looks}
use Rattle.spec_text.proofs.laws.Pieces.{said_at, file_pieces}
use Rattle.spec_text.proofs.laws.Keeps.{AsgNamed}
use Rattle.spec_text.proofs.laws.Unplaced.{unplaced_rule, unplaced_asg, unplaced}
use Rattle.spec_text.proofs.laws.Words.{letter_back, level_back, permission_back, log_back}
use Rattle.spec_text.proofs.laws.Sayings.{saying, strings, group_sayings, link_sayings, calculation_sayings, unknown_sayings, head_sayings}
use Rattle.spec_text.proofs.laws.Sayings.{predicate_sayings, rule_sayings, links_sayings, rules_sayings, asg_sayings, file_sayings, text_says}
use Rattle.spec_text.proofs.laws.Heard.{unplaced_rule_of, unplaced_asg_of, same_rule, placed, file_heard}
use Rattle.spec_text.proofs.laws.Roles.{is, is_self, Without, strings_without, link_without, body_without, rule_without, each_without}
use Rattle.spec_text.proofs.laws.Roles.{asg_without, uags_without, hags_without, asgs_without, texts_strings, predicate_texts, no_strings}
use Rattle.spec_text.proofs.laws.Roles.{no_calculation, no_unknown}

-- ---- what is made of a file's sayings

-- what is made of a part with a head, and at which roles of its body that looks
record Part (B : Type 0) : Type 0 where
  head : Role
  roles : List Role
  make : Clause → B
  looks : LooksAt roles make

-- a role of the part
abbrev part_role : {B : Type 0} → Part B → Role → Bool
part_role k = one_of (k.head ∷ k.roles)

-- what is made of some tokens' parts
module _ {B : Type 0} (k : Part B) where
  record Makes (xs : List Tagged) (bs : List B) : Type 0 where
    behind : Behind k.head k.roles xs
    makes : map k.make (clauses k.head xs) ≡ bs

  makes_append : {xs ys : List Tagged} {bs cs : List B} → Makes xs bs → Makes ys cs → Makes (xs ++ ys) (bs ++ cs)
  makes_append {xs} {ys} a b =
      record {
        behind = behind_append k.head k.roles xs ys a.behind b.behind;
        makes = clauses_append k.head k.roles k.make k.looks xs ys b.behind ∙ ap₂ (λ (x y : List B). x ++ y) a.makes b.makes;
      }

  -- one of each
  makes_each :
      {A : Type 0} {P : A → Type 0} (g : A → List Tagged) (b : A → B) → ((x : A) → P x → Makes (g x) (b x ∷ [])) → {xs : List A} → Every P xs
      → Makes (joined (map g xs)) (map b xs)
  makes_each g b h nil = record { behind = refl; makes = refl }
  makes_each g b h (cons {x = x} p e) = makes_append (h x p) (makes_each g b h e)

  -- each itself
  makes_own : (g : B → List Tagged) → ((x : B) → Makes (g x) (x ∷ [])) → (xs : List B) → Makes (joined (map g xs)) xs
  makes_own g h [] = record { behind = refl; makes = refl }
  makes_own g h (x ∷ xs) = makes_append (h x) (makes_own g h xs)

  makes_none : {xs : List Tagged} → Without (part_role k) xs → Makes xs []
  makes_none w =
      record {
        behind = behind_none k.head k.roles (every_implies (λ x e. (split x e).1) w);
        makes = ap (map k.make) (clauses_none k.head (every_implies (λ x e. (split x e).0) w));
      }
    where
      split : (x : Tagged) → part_role k x.role ≡ false → (has_role k.head x ≡ false) × (one_of k.roles x.role ≡ false)
      split x = neither (has_role k.head x) (one_of k.roles x.role)

  -- a head and what it heads
  makes_one :
      (x : Tagged) (xs : List Tagged) {b : B} → has_role k.head x ≡ true → Without (is k.head) xs → k.make (record { head = x; body = xs }) ≡ b
      → Makes (x ∷ xs) (b ∷ [])
  makes_one x xs e w h =
      record { behind = rw e; makes = rw (e, clauses_none k.head w, until_all k.head w) (ap (λ (b : B). b ∷ []) h) }

-- ---- groups

abbrev group_part : (n m : Role) → one_of (m ∷ []) m ≡ true → Part Group
group_part n m o = record { head = n; roles = m ∷ []; make = group m; looks = group_looks m o }

abbrev uag_part : Part Group
uag_part = group_part UagName User refl

abbrev hag_part : Part Group
hag_part = group_part HagName Host refl

group_makes : (n m : Role) (o : one_of (m ∷ []) m ≡ true) → same_role m n ≡ false → (g : Group) → Makes (group_part n m o) (group_sayings n m g) (g ∷ [])
group_makes n m o w g =
    makes_one (group_part n m o) (saying n g.name) (strings m g.members) (is_self n) (strings_without (is n) m w g.members)
    (ap (λ (l : List (List ℕ)). record { name = g.name; members = l }) (texts_strings m g.members))

module _ (f : File) where
  pub uags_back : groups UagName User (file_sayings f) ≡ f.uags
  uags_back =
      (makes_append uag_part
      (makes_own uag_part (group_sayings UagName User) (group_makes UagName User refl refl) f.uags)
      (makes_none uag_part (every_append (hags_without (part_role uag_part) refl refl f) (asgs_without (part_role uag_part) refl refl f)))).makes
      ∙ append-nil f.uags

  pub hags_back : groups HagName Host (file_sayings f) ≡ f.hags
  hags_back =
      (makes_append hag_part
      (makes_none hag_part (uags_without (part_role hag_part) refl refl f))
      (makes_append hag_part
      (makes_own hag_part (group_sayings HagName Host) (group_makes HagName Host refl refl) f.hags)
      (makes_none hag_part (asgs_without (part_role hag_part) refl refl f)))).makes
      ∙ append-nil f.hags

-- ---- rules

rule_back : (r : RuleText) → r.level ≤ greatest_level → unplaced_rule (rule_text (head_sayings r ++ predicate_sayings r)) ≡ unplaced_rule r
rule_back r low =
    same_rule
    (ap (λ (o : Option ℕ). get_or o 0) (level_back r.level low))
    (ap (λ (o : Option Access). get_or o access.None) (permission_back r.permission))
    (ap (λ (o : Option Bool). get_or o false) (log_back r.trap))
    (predicate_texts UagNamed r
    (texts_strings UagNamed r.uags)
    (no_strings UagNamed HagNamed refl r.hags)
    (no_calculation UagNamed refl refl r.calculation)
    (no_unknown UagNamed refl (switched_off r))
    ∙ append-nil r.uags)
    (predicate_texts HagNamed r
    (no_strings HagNamed UagNamed refl r.uags)
    (texts_strings HagNamed r.hags)
    (no_calculation HagNamed refl refl r.calculation)
    (no_unknown HagNamed refl (switched_off r))
    ∙ append-nil r.hags)
    (ap head_of
    (predicate_texts Calculation r (no_strings Calculation UagNamed refl r.uags) (no_strings Calculation HagNamed refl r.hags) refl
    (no_unknown Calculation refl (switched_off r)))
    ∙ calculation r.calculation)
    (placed (select (has_role UnknownPredicate) (predicate_sayings r))
    ∙ (ap nonempty
    (predicate_texts UnknownPredicate r (no_strings UnknownPredicate UagNamed refl r.uags) (no_strings UnknownPredicate HagNamed refl r.hags)
    (no_calculation UnknownPredicate refl refl r.calculation) refl)
    ∙ unknown (switched_off r)))
  where
    calculation : (o : Option (List ℕ)) → head_of (texts Calculation (calculation_sayings o) ++ []) ≡ o
    calculation none = refl
    calculation (some s) = refl

    unknown : (b : Bool) → nonempty (texts UnknownPredicate (unknown_sayings b)) ≡ b
    unknown false = refl
    unknown true = refl

abbrev rule_part : Part RuleText
rule_part = record { head = RuleWord; roles = rule_roles; make = unplaced_rule_of; looks = λ x ys zs e. ap unplaced_rule (rule_looks x ys zs e) }

rule_makes : (r : RuleText) → r.level ≤ greatest_level → Makes rule_part (rule_sayings r) (unplaced_rule r ∷ [])
rule_makes r low =
    makes_one rule_part (saying RuleWord (bytes "RULE")) (head_sayings r ++ predicate_sayings r) refl (body_without (is RuleWord) refl r) (rule_back r low)

-- ---- access groups

abbrev link_part : Part Link
link_part = record { head = Input; roles = Pvname ∷ []; make = link; looks = link_looks }

link_makes : (i : Link) → Makes link_part (link_sayings i) (i ∷ [])
link_makes i = record { behind = refl; makes = ap (λ (n : ℕ). record { letter = n; name = i.name } ∷ []) (letter_back i.letter) }

module _ (a : Asg) where
  inputs_back : map link (clauses Input (links_sayings a ++ rules_sayings a)) ≡ a.inputs
  inputs_back =
      (makes_append link_part
      (makes_own link_part link_sayings link_makes a.inputs)
      (makes_none link_part (each_without (part_role link_part) rule_sayings (rule_without (part_role link_part) refl refl) a.rules))).makes
      ∙ append-nil a.inputs

  rules_back : AsgNamed a → map unplaced_rule_of (clauses RuleWord (links_sayings a ++ rules_sayings a)) ≡ map unplaced_rule a.rules
  rules_back n =
      (makes_append rule_part
      (makes_none rule_part (each_without (part_role rule_part) link_sayings (link_without (part_role rule_part) refl refl) a.inputs))
      (makes_each rule_part rule_sayings unplaced_rule rule_makes n.levels)).makes

abbrev asg_part : Part Asg
asg_part = record { head = AsgName; roles = asg_roles; make = unplaced_asg_of; looks = λ x ys zs e. ap unplaced_asg (asg_looks x ys zs e) }

asg_makes : (a : Asg) → AsgNamed a → Makes asg_part (asg_sayings a) (unplaced_asg a ∷ [])
asg_makes a n =
    makes_one asg_part (saying AsgName a.name) (links_sayings a ++ rules_sayings a) refl (asg_without (is AsgName) refl a)
    (ap₂ (λ (i : List Link) (l : List RuleText). record { name = a.name; inputs = i; rules = l })
    (inputs_back a)
    (map_map unplaced_rule rule_of (clauses RuleWord (links_sayings a ++ rules_sayings a)) ∙ rules_back a n))

pub asgs_back : (f : File) → Every AsgNamed f.asgs → map unplaced_asg_of (clauses AsgName (file_sayings f)) ≡ map unplaced_asg f.asgs
asgs_back f n =
    (makes_append asg_part
    (makes_none asg_part (uags_without (part_role asg_part) refl refl f))
    (makes_append asg_part
    (makes_none asg_part (hags_without (part_role asg_part) refl refl f))
    (makes_each asg_part asg_sayings unplaced_asg asg_makes n))).makes

-- ---- the file

file_back : (f : File) → Every AsgNamed f.asgs → unplaced (file_of (file_sayings f)) ≡ unplaced f
file_back f n = rw (uags_back f, hags_back f, map_map unplaced_asg asg (clauses AsgName (file_sayings f)), asgs_back f n) refl

-- THE LAW
pub says : (f : File) (p : ℕ) → Every AsgNamed f.asgs → unplaced (file_of (said_at p (file_pieces f))) ≡ unplaced f
says f p n = file_heard (text_says f p) ∙ file_back f n
