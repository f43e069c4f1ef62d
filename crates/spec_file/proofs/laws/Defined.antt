-- 12 has a cause exactly at the tokens that name a group which the file does not define; so it has none exactly if each group that a rule names is defined.
use Rattle.std.specs.Prelude.{◌≡◌, refl, Bool, true, false, cond, not, ◌&&◌, ◌||◌, List, [], ◌∷◌, ◌++◌, map, ◌↔◌, ℕ}
use Rattle.std.proofs.Common.{sym, ap, ◌∙◌}
use Rattle.std.proofs.Math.Bool.{or-true}
use Rattle.std.proofs.lemmas.Bool.{false≢true}
use Rattle.spec_lists.specs.Text.{same}
use Rattle.spec_lists.specs.Select.{any}
use Rattle.spec_lists.specs.Every.{Every, nil, cons}
use Rattle.spec_lists.proofs.laws.Any.{any_append, or_between}
use Rattle.spec_lists.proofs.laws.Both.{both, neither}
use Rattle.spec_lists.proofs.laws.Same.{same_true, same_self}
use Rattle.spec_lists.proofs.laws.Every.{every_implies, every_map, every_both}
use Rattle.spec_token.specs.Token.{Token}
use Rattle.spec_rule.specs.Privilege.{here, further}
use Rattle.spec_grammar.specs.declared.Role.{Role}
use Rattle.spec_grammar.specs.declared.Role.TheVariants.{UagName, User, HagName, Host, AsgName, RuleWord, UagNamed, HagNamed}
use Rattle.spec_grammar.specs.Codes.{same_role}
use Rattle.spec_grammar.specs.Sentence.{Tagged, Reads}
use Rattle.spec_file.specs.declared.Refusal.TheVariants.{UndefinedGroup}
use Rattle.spec_file.specs.Contents.{has_role, text, until, clauses, groups, rule_text, asg, file_of}
use Rattle.spec_file.specs.Refusal.{Context, contexts_after, contexts, undefined, undefined_group, Applies, nowhere_defined}
use Rattle.spec_file.specs.Acceptance.{TextReads, Nowhere, Acceptable}
use Rattle.spec_file.specs.Defined.{Defined, NamesUndefined, uag, hag, NamesDefined, GroupsDefined}
use Rattle.spec_file.proofs.laws.Causes.{never, not_defined}
use Rattle.spec_file.proofs.laws.Counted.{every_clauses, every_texts, every_here, every_context, role_is}
use Rattle.spec_file.proofs.laws.ItemClauses.{group}
use Rattle.spec_file.proofs.laws.Named.{named_in_rules, uag_in_rules, hag_in_rules}

-- ---- a token's context holds the rest of the file

-- what some token passes, it passes, or one around it
abbrev Around : List Tagged → Context → Type 0
Around xs c = (p : Tagged → Bool) → p c.here || any p (c.backwards ++ c.onwards) ≡ any p xs

around_after :
    (b xs : List Tagged)
    → Every (λ c. (p : Tagged → Bool) → p c.here || any p (c.backwards ++ c.onwards) ≡ any p b || any p xs) (contexts_after b xs)
around_after b [] = nil
around_after b (x ∷ xs) =
    cons {x = record { backwards = b; here = x; onwards = xs }}
    (λ p. ap (λ (d : Bool). p x || d) (any_append p b xs) ∙ swap (p x) (any p b) (any p xs))
    (every_implies (λ c e p. e p ∙ or_between (any p b) (p x) (any p xs)) (around_after (x ∷ b) xs))
  where
    swap : (t a d : Bool) → t || (a || d) ≡ a || (t || d)
    swap true true d = refl
    swap true false d = refl
    swap false true d = refl
    swap false false d = refl

around : (xs : List Tagged) → Every (Around xs) (contexts xs)
around xs = around_after [] xs

-- ---- a name is defined if one of the tokens defines it

abbrev defines : Role → List ℕ → Tagged → Bool
defines n t x = has_role n x && same (text x) t

module _ (n m : Role) (t : List ℕ) where
  defined_by : (xs : List Tagged) → any (defines n t) xs ≡ true → Defined (groups n m xs) t
  defined_by [] e = absurd (false≢true e)
  defined_by (x ∷ xs) e = go (has_role n x) (same (text x) t) refl refl e (defined_by xs)
    where
      go :
          (h k : Bool) → has_role n x ≡ h → same (text x) t ≡ k → (h && k) || any (defines n t) xs ≡ true
          → (any (defines n t) xs ≡ true → Defined (groups n m xs) t) → Defined (groups n m (x ∷ xs)) t
      go true true f g e ih = rw f (here (same_true (text x) t g))
      go true false f g e ih = rw f (further (ih e))
      go false k f g e ih = rw f (ih e)

  defined_among : (xs : List Tagged) → Defined (groups n m xs) t → any (defines n t) xs ≡ true
  defined_among [] d = elim d [ ]
  defined_among (x ∷ xs) d = go (has_role n x) d (defined_among xs)
    where
      go :
          (h : Bool) → Defined (map (group m) (cond h (record { head = x; body = until n xs } ∷ clauses n xs) (clauses n xs))) t
          → (Defined (groups n m xs) t → any (defines n t) xs ≡ true) → (h && same (text x) t) || any (defines n t) xs ≡ true
      go true (here e) ih = rw (ap (λ (u : List ℕ). same u t) e ∙ same_self t)
      go true (further d) ih = rw (ih d) (or-true (same (text x) t))
      go false d ih = ih d

-- ---- what a token names

module _ (xs : List Tagged) where
  -- if a token names a group, that is defined
  abbrev NamedGroup : Role → Role → Role → Tagged → Type 0
  NamedGroup named n m x = has_role named x ≡ true → Defined (groups n m xs) (text x)

  abbrev NamedGroups : Tagged → Type 0
  NamedGroups x = NamedGroup UagNamed UagName User x × NamedGroup HagNamed HagName Host x

  module _ (named n m : Role) (other : same_role named n ≡ false) (c : Context) (e : Around xs c) where
    defined_here : undefined named n c ≡ false → NamedGroup named n m c.here
    defined_here u h =
        let p = defines n (text c.here) in
        let b = any p (c.backwards ++ c.onwards) in
        defined_by n m (text c.here) xs (sym (e p) ∙ ap (λ (d : Bool). p c.here || d) (elsewhere (has_role named c.here) b h u) ∙ or-true (p c.here))
      where
        elsewhere : (a b : Bool) → a ≡ true → a && not b ≡ false → b ≡ true
        elsewhere true true h u = refl
        elsewhere true false h u = sym u
        elsewhere false b h u = absurd (false≢true h)

    -- a token that names a group is none that defines one
    not_undefined : NamedGroup named n m c.here → undefined named n c ≡ false
    not_undefined d = go (has_role named c.here) refl
      where
        go :
            (b : Bool) → has_role named c.here ≡ b → b && not (any (defines n (text c.here)) (c.backwards ++ c.onwards)) ≡ false
        go false h = refl
        go true h =
            let t = text c.here in
            let role : has_role n c.here ≡ false = ap (λ (r : Role). same_role r n) (role_is named c.here h) ∙ other in
            let found : any (defines n t) (c.backwards ++ c.onwards) ≡ true =
            sym (ap (λ (b : Bool). (b && same t t) || any (defines n t) (c.backwards ++ c.onwards)) role)
            ∙ e (defines n t)
            ∙ defined_among n m t xs (d h)
            in
            ap not found

  both_defined : (c : Context) → Around xs c → undefined_group c ≡ false → NamedGroups c.here
  both_defined c e u =
      let v = neither (undefined UagNamed UagName c) (undefined HagNamed HagName c) u in
      (defined_here UagNamed UagName User refl c e v.0, defined_here HagNamed HagName Host refl c e v.1)

  none_undefined : (c : Context) → Around xs c → NamedGroups c.here → undefined_group c ≡ false
  none_undefined c e d = rw (not_undefined UagNamed UagName User refl c e d.0, not_undefined HagNamed HagName Host refl c e d.1)

  -- ---- where 12 has a cause

  undefined_there : (c : Context) → Around xs c → undefined_group c ≡ true → NamesUndefined (file_of xs) c.here
  undefined_there c e h = go (undefined UagNamed UagName c) (undefined HagNamed HagName c) refl refl h
    where
      role : (named n : Role) → undefined named n c ≡ true → c.here.role ≡ named
      role named n u = role_is named c.here (both (has_role named c.here) _ u).0

      go :
          (a b : Bool) → undefined UagNamed UagName c ≡ a → undefined HagNamed HagName c ≡ b → a || b ≡ true
          → NamesUndefined (file_of xs) c.here
      go true b u v k = uag (role UagNamed UagName u) (λ d. never (not_undefined UagNamed UagName User refl c e (λ h. d)) u)
      go false true u v k = hag (role HagNamed HagName v) (λ d. never (not_undefined HagNamed HagName Host refl c e (λ h. d)) v)
      go false false u v k = absurd (false≢true k)

  undefined_here : (c : Context) → Around xs c → NamesUndefined (file_of xs) c.here → undefined_group c ≡ true
  undefined_here c e n = go (undefined_group c) refl
    where
      no : undefined_group c ≡ false → NamesUndefined (file_of xs) c.here → ⊥
      no u (uag r d) = d ((both_defined c e u).0 (rw r))
      no u (hag r d) = d ((both_defined c e u).1 (rw r))

      go : (b : Bool) → undefined_group c ≡ b → b ≡ true
      go true u = refl
      go false u = absurd (no u n)

  -- at each such name, and at no other token
  pub undefined_exactly : Every (λ c. Applies c UndefinedGroup ↔ NamesUndefined (file_of xs) c.here) (contexts xs)
  undefined_exactly = every_implies (λ c e. (λ a. undefined_there c e (was c a), λ n. nowhere_defined (undefined_here c e n))) (around xs)
    where
      was : (c : Context) → Applies c UndefinedGroup → undefined_group c ≡ true
      was c (nowhere_defined h) = h

  -- ---- what the file says

  rules_defined : Every NamedGroups xs → GroupsDefined (file_of xs)
  rules_defined d =
      every_map asg
      (every_implies
      (λ p w. every_map (λ r. rule_text r.body) (every_implies (λ r v. names r.body v.body) (every_clauses RuleWord w.body)))
      (every_clauses AsgName d))
    where
      names : (ys : List Tagged) → Every NamedGroups ys → NamesDefined (file_of xs) (rule_text ys)
      names ys e = record { users = every_texts UagNamed (λ x h n. n.0 h) e; hosts = every_texts HagNamed (λ x h n. n.1 h) e }

  module _ {ts : List Token} (t : Reads ts xs) where
    tokens_defined : GroupsDefined (file_of xs) → Every NamedGroups xs
    tokens_defined d =
        every_both (λ x u h. (u, h))
        (named_in_rules UagNamed uag_in_rules (λ r. r.uags) (λ ys. refl) (Defined (file_of xs).uags) ts xs t
        (every_implies (λ a rs. every_implies (λ r n. n.users) rs) d))
        (named_in_rules HagNamed hag_in_rules (λ r. r.hags) (λ ys. refl) (Defined (file_of xs).hags) ts xs t
        (every_implies (λ a rs. every_implies (λ r n. n.hosts) rs) d))

    -- where the groups that rules name are defined, the test finds none undefined
    pub nothing_undefined : GroupsDefined (file_of xs) → Every (λ c. undefined_group c ≡ false) (contexts xs)
    nothing_undefined d = every_both none_undefined (around xs) (every_context [] (tokens_defined d))

  module _ {s : List ℕ} (t : TextReads s xs) where
    -- 12 has no cause exactly if the groups that rules name are defined
    pub defined_exactly : Nowhere UndefinedGroup (contexts xs) ↔ GroupsDefined (file_of xs)
    defined_exactly = (
      λ w. rules_defined (every_here [] xs (every_both (λ c e n. both_defined c e (unless c n)) (around xs) w)),
      λ d. every_implies not_defined (nothing_undefined t.reading d),
    )
      where
        unless : (c : Context) → (Applies c UndefinedGroup → ⊥) → undefined_group c ≡ false
        unless c n = go (undefined_group c) refl
          where
            go : (b : Bool) → undefined_group c ≡ b → b ≡ false
            go true h = absurd (n (nowhere_defined h))
            go false h = refl

-- so in an acceptable file they are
pub groups_defined : (s : List ℕ) (xs : List Tagged) → Acceptable s xs → GroupsDefined (file_of xs)
groups_defined s xs a = (defined_exactly xs a.as_read).0 (a.uncaused UndefinedGroup)
