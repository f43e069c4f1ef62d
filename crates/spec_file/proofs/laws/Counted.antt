-- What the causes leave: how many of each item a file has, how long its texts are, and what holds of each token.
use Rattle.std.specs.Prelude.{◌≡◌, refl, Bool, true, false, cond, not, ◌&&◌, List, [], ◌∷◌, map, ℕ, ◌+◌, ◌≤◌, ◌<◌, T, eqb, leb, length, get_or}
use Rattle.std.proofs.Common.{sym, ap, subst, ◌∙◌, arith, leb-false, eqb-true}
use Rattle.std.proofs.lemmas.Bool.{false≢true}
use Rattle.std.proofs.Math.Option
use Rattle.std.proofs.Math.Option.{Option, none, some}
use Rattle.spec_lists.specs.Select.{select, prepend_if, first, keep_if, holds_of, missing}
use Rattle.spec_lists.specs.Every.{Every, nil, cons}
use Rattle.spec_lists.proofs.laws.Every.{every_run, every_unmap, first_none}
use Rattle.spec_lists.proofs.laws.Sums.{sum, sum_le, sum_map, sum_swap, length_sum}
use Rattle.spec_token.specs.declared.Kind.TheVariants.{Inp}
use Rattle.spec_token.specs.Token.{Token}
use Rattle.spec_calc.specs.Reader.{tree_of}
use Rattle.spec_grammar.specs.declared.Role.{Role}
use Rattle.spec_grammar.specs.declared.Role.TheVariants.{NoRole, UagName, User, HagName, Host, AsgName, Input, Pvname, RuleWord, Level, Permission}
use Rattle.spec_grammar.specs.declared.Role.TheVariants.{LogOption, UagNamed, HagNamed, CalcWord, Calculation, UnknownItem, UnknownPredicate}
use Rattle.spec_grammar.specs.Codes.{role_number, kind_number}
use Rattle.spec_grammar.specs.Sentence.{Tagged}
use Rattle.spec_grammar.proofs.laws.Sound.{same_kind}
use Rattle.spec_grammar.proofs.laws.Inputs.{may_say}
use Rattle.spec_file.specs.Limit.{Section, user_groups, host_groups, members, access_groups, inputs, rules, references, most, item_of, order}
use Rattle.spec_file.specs.Contents.{has_role, text, texts, until, Clause, clauses, head_of}
use Rattle.spec_file.specs.Refusal.{Context, contexts_after, contexts, too_long, item, too_many, given_again, undefined_group, bad_level}
use Rattle.spec_file.specs.Refusal.{unknown_word, letters_given, letters_among}
use Rattle.spec_file.specs.Acceptance.{TextReads}
use Rattle.spec_file.specs.Load.{bad_calculation, Cause, causes, or_else, refused_by}

-- the sum over those that pass a test
abbrev pub sum_of : (Tagged → Bool) → (Tagged → ℕ) → List Tagged → ℕ
sum_of p m = sum (λ x. cond (p x) (m x) 0)

pub sum_select : (p : Tagged → Bool) (m : Tagged → ℕ) (xs : List Tagged) → sum m (select p xs) ≡ sum_of p m xs
unfolding sum
sum_select p m [] = refl
sum_select p m (x ∷ xs) = go (p x) (sum_select p m xs)
  where
    go : (b : Bool) → sum m (select p xs) ≡ sum_of p m xs → sum m (prepend_if b x (select p xs)) ≡ cond b (m x) 0 + sum_of p m xs
    go true e = omega arith
    go false e = omega arith

pub sum_heads : (r : Role) (m : Tagged → ℕ) (xs : List Tagged) → sum (λ p. m p.head) (clauses r xs) ≡ sum_of (has_role r) m xs
unfolding sum
sum_heads r m [] = refl
sum_heads r m (x ∷ xs) = go (has_role r x) (sum_heads r m xs)
  where
    go :
        (b : Bool) → sum (λ p. m p.head) (clauses r xs) ≡ sum_of (has_role r) m xs
        → sum (λ p. m p.head) (cond b (record { head = x; body = until r xs } ∷ clauses r xs) (clauses r xs)) ≡ cond b (m x) 0 + sum_of (has_role r) m xs
    go true e = omega arith
    go false e = omega arith

-- the bodies of parts, with what stands before the first, weigh no more than all
bodies_until :
    (r : Role) (g : List Tagged → ℕ) (w : Tagged → ℕ) → ((ys : List Tagged) → g ys ≤ sum w ys) → (xs : List Tagged)
    → sum w (until r xs) + sum (λ p. g p.body) (clauses r xs) ≤ sum w xs
unfolding sum
bodies_until r g w f [] = omega arith
bodies_until r g w f (x ∷ xs) = go (has_role r x) (f (until r xs)) (bodies_until r g w f xs)
  where
    bodies : List Clause → ℕ
    bodies = sum (λ p. g p.body)

    go :
        (b : Bool) → g (until r xs) ≤ sum w (until r xs) → sum w (until r xs) + bodies (clauses r xs) ≤ sum w xs
        → sum w (keep_if (not b) x (until r xs)) + bodies (cond b (record { head = x; body = until r xs } ∷ clauses r xs) (clauses r xs)) ≤ w x + sum w xs
    go true l h = omega arith
    go false l h = omega arith

-- what counts a body for no more than its tokens weigh counts all bodies so
pub sum_bodies :
    (r : Role) (g : List Tagged → ℕ) (w : Tagged → ℕ) → ((ys : List Tagged) → g ys ≤ sum w ys) → (xs : List Tagged)
    → sum (λ p. g p.body) (clauses r xs) ≤ sum w xs
sum_bodies r g w f xs = omega (arith, bodies_until r g w f xs)

pub sum_texts : (r : Role) (m : List ℕ → ℕ) (xs : List Tagged) → sum m (texts r xs) ≡ sum_of (has_role r) (λ x. m (text x)) xs
sum_texts r m xs = sum_map m text (select (has_role r) xs) ∙ sum_select (has_role r) (λ x. m (text x)) xs

-- ---- what holds of every token

-- a part whose tokens have a property
pub record Whole (P : Tagged → Type 0) (r : Role) (p : Clause) : Type 0 where
  pub said : has_role r p.head ≡ true
  pub head : P p.head
  pub body : Every P p.body

module _ {P : Tagged → Type 0} where
  pub every_clauses : (r : Role) {xs : List Tagged} → Every P xs → Every (Whole P r) (clauses r xs)
  every_clauses r nil = nil
  every_clauses r (cons {x = x} {xs = xs} h c) = go (has_role r x) refl (every_clauses r c)
    where
      go :
          (b : Bool) → has_role r x ≡ b → Every (Whole P r) (clauses r xs)
          → Every (Whole P r) (cond b (record { head = x; body = until r xs } ∷ clauses r xs) (clauses r xs))
      go true e d = cons (record { said = e; head = h; body = every_run _ c }) d
      go false e d = d

  pub every_texts :
      {Q : List ℕ → Type 0} (r : Role) {xs : List Tagged} → ((x : Tagged) → has_role r x ≡ true → P x → Q (text x)) → Every P xs → Every Q (texts r xs)
  every_texts r f nil = nil
  every_texts {Q} r f (cons {x = x} {xs = xs} h c) = go (has_role r x) refl (every_texts r f c)
    where
      go : (b : Bool) → has_role r x ≡ b → Every Q (texts r xs) → Every Q (map text (prepend_if b x (select (has_role r) xs)))
      go true e d = cons (f x e h) d
      go false e d = d

  -- what holds of every token in its context
  pub every_here : (b xs : List Tagged) → Every (λ c. P c.here) (contexts_after b xs) → Every P xs
  every_here b [] c = nil
  every_here b (x ∷ xs) (cons h c) = cons h (every_here (x ∷ b) xs c)

  -- and back
  pub every_context : (b : List Tagged) {xs : List Tagged} → Every P xs → Every (λ c. P c.here) (contexts_after b xs)
  every_context b nil = nil
  every_context b (cons {x = x} h c) = cons h (every_context (x ∷ b) c)

-- what the contexts behind a head leave of its part
pub clauses_after :
    {C : Context → Type 0} {P : Clause → Type 0} (r : Role)
    → ((x : Tagged) (b xs : List Tagged) → has_role r x ≡ true → Every C (contexts_after (x ∷ b) xs) → P (record { head = x; body = until r xs }))
    → (b xs : List Tagged) → Every C (contexts_after b xs) → Every P (clauses r xs)
clauses_after r f b [] c = nil
clauses_after {P = P} r f b (x ∷ xs) (cons h c) = go (has_role r x) refl (clauses_after r f (x ∷ b) xs c)
  where
    go : (a : Bool) → has_role r x ≡ a → Every P (clauses r xs) → Every P (cond a (record { head = x; body = until r xs } ∷ clauses r xs) (clauses r xs))
    go true e d = cons (f x b xs e c) d
    go false e d = d

-- what holds of every text of a list, and of the empty one, holds of the first
pub first_has : {Q : List ℕ → Type 0} → Q [] → {ts : List (List ℕ)} → Every Q ts → Q (Option.get_or (head_of ts) [])
first_has q nil = q
first_has q (cons h c) = h

-- what holds of every token that spells a text
pub every_read : {P : Token → Type 0} {s : List ℕ} {xs : List Tagged} (t : TextReads s xs) → Every P t.spelled → Every (λ x. P x.token) xs
every_read {P} {xs = xs} t e = every_unmap (λ x. x.token) xs (subst (Every P) (sym t.reading.tokens) e)

-- what says an input is an INP word
pub input_kind : (x : Tagged) → may_say x.token.kind x.role ≡ true → has_role Input x ≡ true → x.token.kind ≡ Inp
input_kind x m h =
    let e : eqb (kind_number x.token.kind) (kind_number Inp) ≡ true = rw h at m in
    same_kind x.token.kind Inp (subst T (sym e) tt)

-- ---- the causes

-- where 10 has no cause, a calculation is one
pub calculated : (c : Context) → bad_calculation c ≡ false → has_role Calculation c.here ≡ true → missing (tree_of (text c.here)) ≡ false
calculated c = held (tree_of (text c.here)) (letters_among (letters_given c)) (has_role Calculation c.here)
  where
    held : {A : Type 0} (o : Option A) (p : A → Bool) (a : Bool) → a && not (holds_of o p) ≡ false → a ≡ true → missing o ≡ false
    held (some t) p a e h = refl
    held none p true e h = e
    held none p false e h = sym h

-- a cause that applies nowhere, and the causes behind it
pub applies_nowhere : (ks : List Cause) (cs : List Context) → refused_by ks cs ≡ none → Every (λ k. Every (λ c. k.applies c ≡ false) cs) ks
applies_nowhere [] cs e = nil
applies_nowhere (k ∷ ks) cs e = go (first k.applies cs) refl e (applies_nowhere ks cs)
  where
    go :
        (o : Option Context) → first k.applies cs ≡ o → or_else k.refusal o (refused_by ks cs) ≡ none
        → (refused_by ks cs ≡ none → Every (λ k. Every (λ c. k.applies c ≡ false) cs) ks) → Every (λ k. Every (λ c. k.applies c ≡ false) cs) (k ∷ ks)
    go none h e f = cons (first_none _ cs h) (f e)
    go (some c) h e f = let z : false ≡ true = cc in absurd (false≢true z)

-- no cause applies to any token of a file
pub record Clear (cs : List Context) : Type 0 where
  pub short : Every (λ c. too_long c ≡ false) cs
  pub few : Every (λ c. too_many c ≡ false) cs
  pub once : Every (λ c. given_again c ≡ false) cs
  pub defined : Every (λ c. undefined_group c ≡ false) cs
  pub levels : Every (λ c. bad_level c ≡ false) cs
  pub words : Every (λ c. unknown_word c ≡ false) cs
  pub calculations : Every (λ c. bad_calculation c ≡ false) cs

pub clear : (cs : List Context) → refused_by causes cs ≡ none → Clear cs
clear cs e = go (applies_nowhere causes cs e)
  where
    go : Every (λ k. Every (λ c. k.applies c ≡ false) cs) causes → Clear cs
    go (cons a (cons b (cons c (cons u (cons d (cons e (cons f nil))))))) =
        record { short = a; few = b; once = c; defined = u; levels = d; words = e; calculations = f }

-- ---- roles and sections are told apart by their numbers

injective : {K : Type 0} (code : K → ℕ) (all : List K) (d : K) → ((k : K) → get_or all (code k) d ≡ k) → (a b : K) → eqb (code a) (code b) ≡ true → a ≡ b
injective code all d back a b e = sym (back a) ∙ (ap (λ n. get_or all n d) (eqb-true (code a) (code b) e) ∙ back b)

abbrev all_sections : List Section
all_sections = user_groups ∷ host_groups ∷ members ∷ access_groups ∷ inputs ∷ rules ∷ references ∷ []

section_back : (s : Section) → get_or all_sections (order s) user_groups ≡ s
section_back user_groups = refl
section_back host_groups = refl
section_back members = refl
section_back access_groups = refl
section_back inputs = refl
section_back rules = refl
section_back references = refl

abbrev all_roles : List Role
all_roles =
    NoRole ∷ UagName ∷ User ∷ HagName ∷ Host ∷ AsgName ∷ Input ∷ Pvname ∷ RuleWord ∷ Level ∷ Permission ∷ LogOption ∷ UagNamed ∷ HagNamed ∷ CalcWord ∷
    Calculation ∷ UnknownItem ∷ UnknownPredicate ∷ []

-- how often a token says one of the roles, each time counted as n
abbrev pub says_among : List Role → ℕ → Tagged → ℕ
says_among rs n x = sum (λ r. cond (has_role r x) n 0) rs

-- the roles whose texts are the strings of a table
abbrev pub string_roles : List Role
string_roles = UagName ∷ HagName ∷ User ∷ Host ∷ AsgName ∷ Pvname ∷ UagNamed ∷ HagNamed ∷ Calculation ∷ []

-- A token says one thing: it is one string of a table at most, and one record of one section.
pub record Once (x : Tagged) : Type 0 where
  pub string : says_among string_roles (length (text x)) x ≤ length (text x)
  pub user_group : says_among (UagName ∷ []) 1 x ≤ cond (item user_groups x) 1 0
  pub host_group : says_among (HagName ∷ []) 1 x ≤ cond (item host_groups x) 1 0
  pub member : says_among (User ∷ Host ∷ []) 1 x ≤ cond (item members x) 1 0
  pub access_group : says_among (AsgName ∷ []) 1 x ≤ cond (item access_groups x) 1 0
  pub input : says_among (Input ∷ []) 1 x ≤ cond (item inputs x) 1 0
  pub rule : says_among (RuleWord ∷ []) 1 x ≤ cond (item rules x) 1 0
  pub reference : says_among (UagNamed ∷ HagNamed ∷ []) 1 x ≤ cond (item references x) 1 0

-- what holds of each role
by_role : (t : Token) (q : Role) → (get_or all_roles (role_number q) NoRole ≡ q) × Once (record { token = t; role = q })
unfolding sum
by_role t NoRole = (refl, omega arith)
by_role t UagName = (refl, omega arith)
by_role t User = (refl, omega arith)
by_role t HagName = (refl, omega arith)
by_role t Host = (refl, omega arith)
by_role t AsgName = (refl, omega arith)
by_role t Input = (refl, omega arith)
by_role t Pvname = (refl, omega arith)
by_role t RuleWord = (refl, omega arith)
by_role t Level = (refl, omega arith)
by_role t Permission = (refl, omega arith)
by_role t LogOption = (refl, omega arith)
by_role t UagNamed = (refl, omega arith)
by_role t HagNamed = (refl, omega arith)
by_role t CalcWord = (refl, omega arith)
by_role t Calculation = (refl, omega arith)
by_role t UnknownItem = (refl, omega arith)
by_role t UnknownPredicate = (refl, omega arith)

pub once : (x : Tagged) → Once x
once x = (by_role x.token x.role).1

pub role_is : (r : Role) (x : Tagged) → has_role r x ≡ true → x.role ≡ r
role_is r x = injective role_number all_roles NoRole (λ q. (by_role x.token q).0) x.role r

-- ---- how many items

room : (s : Section) (c : Context) → too_many c ≡ false → item s c.here ≡ true → length (select (item s) c.backwards) < most s
room s c = go (item_of c.here.role)
  where
    go :
        (o : Option Section) → holds_of o (λ t. leb (most t) (length (select (item t) c.backwards))) ≡ false
        → holds_of o (λ t. eqb (order t) (order s)) ≡ true → length (select (item s) c.backwards) < most s
    go none h e = absurd (false≢true e)
    go (some t) h e =
        subst (λ z. length (select (item z) c.backwards) < most z) (injective order all_sections user_groups section_back t s e) (leb-false _ _ h)

counted_after :
    (s : Section) (b xs : List Tagged) → length (select (item s) b) ≤ most s → Every (λ c. too_many c ≡ false) (contexts_after b xs)
    → length (select (item s) b) + length (select (item s) xs) ≤ most s
counted_after s b [] l c = omega arith
counted_after s b (x ∷ xs) l (cons h c) = go (item s x) refl (λ k. counted_after s (x ∷ b) xs k c)
  where
    with_x : Bool → List Tagged → ℕ
    with_x i ys = length (prepend_if i x (select (item s) ys))

    go :
        (i : Bool) → item s x ≡ i → (with_x i b ≤ most s → with_x i b + length (select (item s) xs) ≤ most s)
        → length (select (item s) b) + with_x i xs ≤ most s
    go true e f = let k = f (room s (record { backwards = b; here = x; onwards = xs }) h e) in omega arith
    go false e f = f l

-- no section gets more items than it holds
pub counted : (s : Section) (xs : List Tagged) → Every (λ c. too_many c ≡ false) (contexts xs) → length (select (item s) xs) ≤ most s
counted s xs c = omega (arith, counted_after s [] xs (omega arith) c)

-- what the tokens of some roles weigh together, each of them being of one role
pub sum_roles :
    (rs : List Role) (m v : Tagged → ℕ) → ((x : Tagged) → says_among rs (m x) x ≤ v x) → (xs : List Tagged) → sum (λ r. sum_of (has_role r) m xs) rs ≤ sum v xs
sum_roles rs m v f xs = rw (sum_swap (λ r x. cond (has_role r x) (m x) 0) rs xs) (sum_le f xs)

-- the tokens of some roles are no more than the section holds to which each adds
pub counted_roles :
    (s : Section) (rs : List Role) → ((x : Tagged) → says_among rs 1 x ≤ cond (item s x) 1 0) → (xs : List Tagged)
    → Every (λ c. too_many c ≡ false) (contexts xs)
    → sum (λ r. sum_of (has_role r) (λ x. 1) xs) rs ≤ most s
counted_roles s rs f xs c =
    omega (arith, sum_roles rs (λ x. 1) _ f xs, sum_select (item s) (λ x. 1) xs, length_sum (select (item s) xs), counted s xs c)
