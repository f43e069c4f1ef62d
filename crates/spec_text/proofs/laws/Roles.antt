-- Which roles stand where in what a file says, and the texts of each role.
use Rattle.std.specs.Prelude.{◌≡◌, refl, Bool, true, false, not, List, [], ◌∷◌, ◌++◌, map, ℕ}
use Rattle.std.proofs.Common.{ap, ap₂, ◌∙◌, eq-eqb}
use Rattle.std.proofs.Math.Option.{Option, none, some}
use Rattle.std.proofs.lemmas.Bool.{not-true}
use Rattle.spec_lists.specs.Select.{select, joined, all}
use Rattle.spec_lists.specs.Every.{Every, nil, cons}
use Rattle.spec_lists.proofs.laws.Every.{every, every_append, every_implies, every_map, every_joined, all_every}
use Rattle.spec_lists.proofs.laws.Joined.{map_append, select_append}
use Rattle.spec_grammar.specs.declared.Role.{Role}
use Rattle.spec_grammar.specs.declared.Role.TheVariants.{UagName, User, HagName, Host, AsgName, Input, Pvname, RuleWord, UagNamed, HagNamed}
use Rattle.spec_grammar.specs.declared.Role.TheVariants.{CalcWord, Calculation, UnknownPredicate}
use Rattle.spec_grammar.specs.Codes.{role_number, same_role}
use Rattle.spec_grammar.specs.Sentence.{Tagged}
use Rattle.spec_grammar.proofs.laws.Roles.{rule_roles, asg_roles}
use Rattle.spec_file.specs.Contents.{has_role, text, texts, Group, Link, RuleText, Asg, File}
use Rattle.spec_file.specs.Meaning.{switched_off}
use Rattle.spec_file.proofs.laws.Clauses.{select_none}
use Rattle.spec_text.proofs.laws.Sayings.{saying, strings, group_sayings, link_sayings, calculation_sayings, unknown_sayings, head_sayings}
use Rattle.spec_text.proofs.laws.Sayings.{predicate_sayings, rule_sayings, links_sayings, rules_sayings, asg_sayings}

-- the test of a role
abbrev pub is : Role → Role → Bool
is q z = same_role z q

pub is_self : (r : Role) → is r r ≡ true
is_self r = eq-eqb (role_number r) (role_number r) refl

-- ---- where no token passes a test of its role

module _ (p : Role → Bool) where
  abbrev pub Without : List Tagged → Type 0
  Without xs = Every (λ x. p x.role ≡ false) xs

  -- none of rs passes it
  abbrev pub NoneOf : List Role → Type 0
  NoneOf rs = all (λ z. not (p z)) rs ≡ true

  each_fails : {rs : List Role} → NoneOf rs → Every (λ z. p z ≡ false) rs
  each_fails {rs} w = every_implies (λ z. not-true (p z)) (all_every (λ z. not (p z)) rs w)

  pub strings_without : (r : Role) → p r ≡ false → (ss : List (List ℕ)) → Without (strings r ss)
  strings_without r w ss = every_map (saying r) (every (λ s. w) ss)

  group_without : (n m : Role) → p n ≡ false → p m ≡ false → (g : Group) → Without (group_sayings n m g)
  group_without n m v w g = cons v (strings_without m w g.members)

  pub link_without : p Input ≡ false → p Pvname ≡ false → (i : Link) → Without (link_sayings i)
  link_without v w i = cons v (cons w nil)

  calculation_without : p CalcWord ≡ false → p Calculation ≡ false → (o : Option (List ℕ)) → Without (calculation_sayings o)
  calculation_without v w none = nil
  calculation_without v w (some s) = cons v (cons w nil)

  pub unknown_without : p UnknownPredicate ≡ false → (b : Bool) → Without (unknown_sayings b)
  unknown_without w false = nil
  unknown_without w true = cons w nil

  -- what stands behind the word RULE
  body_fails : Every (λ z. p z ≡ false) rule_roles → (r : RuleText) → Without (head_sayings r ++ predicate_sayings r)
  body_fails (cons l (cons a (cons t (cons u (cons h (cons k (cons c (cons o nil)))))))) r =
      cons l
      (cons a
      (cons t
      (every_append (strings_without UagNamed u r.uags)
      (every_append (strings_without HagNamed h r.hags)
      (every_append (calculation_without k c r.calculation) (unknown_without o (switched_off r)))))))

  pub body_without : NoneOf rule_roles → (r : RuleText) → Without (head_sayings r ++ predicate_sayings r)
  body_without w = body_fails (each_fails w)

  pub rule_without : p RuleWord ≡ false → NoneOf rule_roles → (r : RuleText) → Without (rule_sayings r)
  rule_without v w r = cons v (body_without w r)

  -- of each of a list
  pub each_without : {A : Type 0} (g : A → List Tagged) → ((x : A) → Without (g x)) → (xs : List A) → Without (joined (map g xs))
  each_without g w xs = every_joined (every_map g (every w xs))

  -- what stands behind the name of an ASG
  pub asg_without : NoneOf asg_roles → (a : Asg) → Without (links_sayings a ++ rules_sayings a)
  asg_without w a = go (each_fails w)
    where
      go : Every (λ z. p z ≡ false) asg_roles → Without (links_sayings a ++ rules_sayings a)
      go (cons i (cons n (cons r e))) =
          every_append (each_without link_sayings (link_without i n) a.inputs) (each_without rule_sayings (λ x. cons r (body_fails e x)) a.rules)

  -- the parts of a file
  pub uags_without : p UagName ≡ false → p User ≡ false → (f : File) → Without (joined (map (group_sayings UagName User) f.uags))
  uags_without v w f = each_without (group_sayings UagName User) (group_without UagName User v w) f.uags

  pub hags_without : p HagName ≡ false → p Host ≡ false → (f : File) → Without (joined (map (group_sayings HagName Host) f.hags))
  hags_without v w f = each_without (group_sayings HagName Host) (group_without HagName Host v w) f.hags

  pub asgs_without : p AsgName ≡ false → NoneOf asg_roles → (f : File) → Without (joined (map asg_sayings f.asgs))
  asgs_without v w f = each_without asg_sayings (λ a. cons v (asg_without w a)) f.asgs

-- ---- the texts of a role

module _ (q : Role) where
  pub texts_none : {xs : List Tagged} → Without (is q) xs → texts q xs ≡ []
  texts_none w = ap (map text) (select_none w)

  pub texts_append : (xs ys : List Tagged) → texts q (xs ++ ys) ≡ texts q xs ++ texts q ys
  texts_append xs ys = ap (map text) (select_append (has_role q) xs ys) ∙ map_append text (select (has_role q) xs) (select (has_role q) ys)

  -- one text of each
  pub texts_each :
      {A : Type 0} (g : A → List Tagged) (t : A → List ℕ) → ((x : A) → texts q (g x) ≡ t x ∷ []) → (xs : List A)
      → texts q (joined (map g xs)) ≡ map t xs
  texts_each g t e [] = refl
  texts_each g t e (x ∷ xs) = texts_append (g x) (joined (map g xs)) ∙ ap₂ (λ (a b : List (List ℕ)). a ++ b) (e x) (texts_each g t e xs)

  pub texts_strings : (ss : List (List ℕ)) → texts q (strings q ss) ≡ ss
  texts_strings [] = refl
  texts_strings (s ∷ ss) = rw (is_self q) (ap (λ (l : List (List ℕ)). s ∷ l) (texts_strings ss))

  -- those of a rule's predicates
  pub predicate_texts :
      (r : RuleText) {a b c d : List (List ℕ)} → texts q (strings UagNamed r.uags) ≡ a → texts q (strings HagNamed r.hags) ≡ b
      → texts q (calculation_sayings r.calculation) ≡ c → texts q (unknown_sayings (switched_off r)) ≡ d
      → texts q (predicate_sayings r) ≡ a ++ (b ++ (c ++ d))
  predicate_texts r u h c o =
      texts_append (strings UagNamed r.uags) _
      ∙ ap₂ both u (texts_append (strings HagNamed r.hags) _ ∙ ap₂ both h (texts_append (calculation_sayings r.calculation) _ ∙ ap₂ both c o))
    where
      both : List (List ℕ) → List (List ℕ) → List (List ℕ)
      both s t = s ++ t

  -- where q is none of theirs
  pub no_strings : (r : Role) → is q r ≡ false → (ss : List (List ℕ)) → texts q (strings r ss) ≡ []
  no_strings r w ss = texts_none (strings_without (is q) r w ss)

  pub no_calculation : is q CalcWord ≡ false → is q Calculation ≡ false → (o : Option (List ℕ)) → texts q (calculation_sayings o) ≡ []
  no_calculation v w o = texts_none (calculation_without (is q) v w o)

  pub no_unknown : is q UnknownPredicate ≡ false → (b : Bool) → texts q (unknown_sayings b) ≡ []
  no_unknown w b = texts_none (unknown_without (is q) w b)
