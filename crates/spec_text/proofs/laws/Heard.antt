-- What tokens and what they say have in common: their texts, their parts and all that looks at roles and texts alone.
use Rattle.std.specs.Prelude.{◌≡◌, refl, Bool, true, false, cond, not, List, ◌∷◌, map, [], ℕ, eqb, length}
use Rattle.std.proofs.Common.{ap, ap₂, ◌∙◌, sym}
use Rattle.std.proofs.Math.Option.{Option, get_or}
use Rattle.std.proofs.lemmas.List.{length-map}
use Rattle.spec_lists.specs.Select.{select, prepend_if, keep_if, holds_of, nonempty}
use Rattle.spec_lists.proofs.laws.Any.{nonempty_map}
use Rattle.spec_lists.proofs.laws.Joined.{map_map}
use Rattle.spec_token.specs.Word.{link_letter}
use Rattle.spec_rule.specs.declared.Access.{Access}
use Rattle.spec_rule.specs.declared.Access.TheVariants as access
use Rattle.spec_grammar.specs.declared.Role.{Role}
use Rattle.spec_grammar.specs.declared.Role.TheVariants.{NoRole, UagName, User, HagName, Host, AsgName, Input, Pvname, RuleWord, Level, Permission}
use Rattle.spec_grammar.specs.declared.Role.TheVariants.{LogOption, UagNamed, HagNamed, Calculation, UnknownPredicate}
use Rattle.spec_grammar.specs.Codes.{same_role}
use Rattle.spec_grammar.specs.Sentence.{Tagged}
use Rattle.spec_file.specs.Limit.{Section, order, item_of}
use Rattle.spec_file.specs.Contents.{has_role, text, texts, until, Clause, clauses, level_of, permission_of, log_of, value_of, head_of, place, Link}
use Rattle.spec_file.specs.Contents.{RuleText, Asg, groups, rule_text, asg, file_of}
use Rattle.spec_file.specs.Refusal.{item}
use Rattle.spec_file.proofs.laws.ItemClauses.{group, link, rule_of}
use Rattle.spec_text.proofs.laws.Sayings.{Says, nothing, silent, aloud}
use Rattle.spec_text.proofs.laws.Unplaced.{unplaced_rule, unplaced_asg, unplaced}

-- the texts of those whose roles pass a test
module _ (p : Role → Bool) (m : p NoRole ≡ false) where
  selected_says : {xs ys : List Tagged} → Says xs ys → map text (select (λ x. p x.role) xs) ≡ map text (select (λ x. p x.role) ys)
  selected_says nothing = refl
  selected_says (silent e s) = rw (e, m) (selected_says s)
  selected_says (aloud {x = x} {y = y} {xs = xs} {ys = ys} e u s) = rw (ap p e) (go (p y.role) (selected_says s))
    where
      go :
          (b : Bool) → map text (select (λ x. p x.role) xs) ≡ map text (select (λ x. p x.role) ys)
          → map text (prepend_if b x (select (λ x. p x.role) xs)) ≡ map text (prepend_if b y (select (λ x. p x.role) ys))
      go true h = ap₂ (λ (t : List ℕ) (ts : List (List ℕ)). t ∷ ts) u h
      go false h = h

module _ (r : Role) (m : same_role NoRole r ≡ false) where
  pub texts_says : {xs ys : List Tagged} → Says xs ys → texts r xs ≡ texts r ys
  texts_says = selected_says (λ z. same_role z r) m

  pub until_says : {xs ys : List Tagged} → Says xs ys → Says (until r xs) (until r ys)
  until_says nothing = nothing
  until_says (silent {x = x} e s) =
      let h : has_role r x ≡ false = ap (λ (z : Role). same_role z r) e ∙ m in
      rw h (silent e (until_says s))
  until_says (aloud {x = x} {y = y} {xs = xs} {ys = ys} e u s) = rw (ap (λ (z : Role). same_role z r) e) (go (has_role r y) (until_says s))
    where
      go : (b : Bool) → Says (until r xs) (until r ys) → Says (keep_if (not b) x (until r xs)) (keep_if (not b) y (until r ys))
      go true h = nothing
      go false h = aloud e u h

-- what is made of parts by their heads' texts and by what their bodies say
module _
    {B : Type 0} (r : Role) (m : same_role NoRole r ≡ false) (f : Clause → B)
    (hears :
    (x y : Tagged) (xs ys : List Tagged) → text x ≡ text y → Says xs ys → f (record { head = x; body = xs }) ≡ f (record { head = y; body = ys }))
  where
    clauses_says : {xs ys : List Tagged} → Says xs ys → map f (clauses r xs) ≡ map f (clauses r ys)
    clauses_says nothing = refl
    clauses_says (silent e s) = rw (e, m) (clauses_says s)
    clauses_says (aloud {x = x} {y = y} {xs = xs} {ys = ys} e u s) = rw (ap (λ (z : Role). same_role z r) e) (go (has_role r y) (clauses_says s))
      where
        go :
            (b : Bool) → map f (clauses r xs) ≡ map f (clauses r ys)
            → map f (cond b (record { head = x; body = until r xs } ∷ clauses r xs) (clauses r xs))
            ≡ map f (cond b (record { head = y; body = until r ys } ∷ clauses r ys) (clauses r ys))
        go true h = ap₂ (λ (a : B) (l : List B). a ∷ l) (hears x y (until r xs) (until r ys) u (until_says r m s)) h
        go false h = h

pub count_says : (s : Section) {xs ys : List Tagged} → Says xs ys → length (select (item s) xs) ≡ length (select (item s) ys)
count_says s {xs} {ys} t =
    sym (length-map (select (item s) xs) text)
    ∙ (ap length (selected_says (λ z. holds_of (item_of z) (λ q. eqb (order q) (order s))) refl t) ∙ length-map (select (item s) ys) text)

-- ---- the file

abbrev pub unplaced_rule_of : Clause → RuleText
unplaced_rule_of c = unplaced_rule (rule_of c)

abbrev pub unplaced_asg_of : Clause → Asg
unplaced_asg_of c = unplaced_asg (asg c)

-- a rule but for the places
pub same_rule :
    {l k : ℕ} {a b : Access} {t u : Bool} {us vs hs js : List (List ℕ)} {c d : Option (List ℕ)} {o p : Bool}
    → l ≡ k → a ≡ b → t ≡ u → us ≡ vs → hs ≡ js → c ≡ d → o ≡ p
    → ◌≡◌ {A = RuleText}
    (record { level = l; permission = a; trap = t; uags = us; hags = hs; calculation = c; unknown = cond o (0 ∷ []) [] })
    (record { level = k; permission = b; trap = u; uags = vs; hags = js; calculation = d; unknown = cond p (0 ∷ []) [] })
same_rule x1 x2 x3 x4 x5 x6 x7 = rw (x1, x2, x3, x4, x5, x6, x7) refl

-- a token has a place where it has a text
pub placed : (xs : List Tagged) → nonempty (map place xs) ≡ nonempty (map text xs)
placed xs = nonempty_map place xs ∙ sym (nonempty_map text xs)

rule_heard : {xs ys : List Tagged} → Says xs ys → unplaced_rule (rule_text xs) ≡ unplaced_rule (rule_text ys)
rule_heard {xs} {ys} s =
    same_rule
    (ap (λ (l : List (List ℕ)). value_of 0 level_of l) (texts_says Level refl s))
    (ap (λ (l : List (List ℕ)). value_of access.None permission_of l) (texts_says Permission refl s))
    (ap (λ (l : List (List ℕ)). value_of false log_of l) (texts_says LogOption refl s))
    (texts_says UagNamed refl s)
    (texts_says HagNamed refl s)
    (ap head_of (texts_says Calculation refl s))
    (placed (select (has_role UnknownPredicate) xs)
    ∙ (ap nonempty (texts_says UnknownPredicate refl s) ∙ sym (placed (select (has_role UnknownPredicate) ys))))

module _ {xs ys : List Tagged} (s : Says xs ys) where
  groups_heard : (n m : Role) → same_role NoRole n ≡ false → same_role NoRole m ≡ false → groups n m xs ≡ groups n m ys
  groups_heard n m v w =
      clauses_says n v (group m)
      (λ x y xs ys t s. ap₂ (λ (a : List ℕ) (l : List (List ℕ)). record { name = a; members = l }) t (texts_says m w s))
      s

  links_heard : map link (clauses Input xs) ≡ map link (clauses Input ys)
  links_heard =
      clauses_says Input refl link
      (λ x y xs ys t s.
      ap₂ (λ (a : List ℕ) (l : List (List ℕ)). record { letter = link_letter a; name = get_or (head_of l) [] }) t (texts_says Pvname refl s))
      s

  rules_heard : map unplaced_rule_of (clauses RuleWord xs) ≡ map unplaced_rule_of (clauses RuleWord ys)
  rules_heard = clauses_says RuleWord refl unplaced_rule_of (λ x y xs ys t s. rule_heard s) s

-- an ASG but for the places
same_asg :
    {n m : List ℕ} {i j : List Link} (bs cs : List Clause) → n ≡ m → i ≡ j → map unplaced_rule_of bs ≡ map unplaced_rule_of cs
    → ◌≡◌ {A = Asg}
    (unplaced_asg (record { name = n; inputs = i; rules = map rule_of bs }))
    (unplaced_asg (record { name = m; inputs = j; rules = map rule_of cs }))
same_asg bs cs x y z = rw (x, y, map_map unplaced_rule rule_of bs, map_map unplaced_rule rule_of cs, z) refl

pub file_heard : {xs ys : List Tagged} → Says xs ys → unplaced (file_of xs) ≡ unplaced (file_of ys)
file_heard {xs} {ys} s =
    rw (
      groups_heard s UagName User refl refl,
      groups_heard s HagName Host refl refl,
      map_map unplaced_asg asg (clauses AsgName xs),
      map_map unplaced_asg asg (clauses AsgName ys),
      clauses_says AsgName refl unplaced_asg_of (λ x y xs ys t s. same_asg (clauses RuleWord xs) (clauses RuleWord ys) t (links_heard s) (rules_heard s)) s,
    ) refl
