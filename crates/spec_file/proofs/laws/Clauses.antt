-- When a list is its items, one behind the other, its parts are the parts of its items: no part takes anything from another item.
use Rattle.std.specs.Prelude.{◌≡◌, refl, Bool, true, false, cond, not, ◌&&◌, ◌||◌, List, [], ◌∷◌, ◌++◌, map, ℕ}
use Rattle.std.proofs.Common.{sym, ap, ap₂, subst, ◌∙◌, eq-eqb}
use Rattle.std.proofs.lemmas.Bool.{false≢true, not-true}
use Rattle.spec_lists.specs.Select.{select, prepend_if, keep_if, all, joined}
use Rattle.spec_lists.proofs.laws.Both.{both}
use Rattle.spec_lists.specs.Every.{Every, nil, cons}
use Rattle.spec_lists.proofs.laws.Every.{every_run, every_implies}
use Rattle.spec_lists.proofs.laws.Alike.{map_same}
use Rattle.spec_lists.proofs.laws.Joined.{map_map}
use Rattle.spec_grammar.specs.declared.Role.{Role}
use Rattle.spec_grammar.specs.declared.Role.TheVariants.{NoRole}
use Rattle.spec_grammar.specs.Codes.{role_number, same_role}
use Rattle.spec_grammar.specs.Sentence.{Tagged}
use Rattle.spec_grammar.proofs.laws.Roles.{same_role_is, one_of, one_of_all}
use Rattle.spec_grammar.proofs.laws.Items.{roles, Headed, before, head, headed_all}
use Rattle.spec_file.specs.Contents.{has_role, text, texts, until, Clause, clauses}

-- x says one of rs
abbrev pub says_one_of : List Role → Tagged → Bool
says_one_of rs x = one_of rs x.role

-- ---- of what passes no test

module _ {p : Tagged → Bool} where
  pub select_none : {xs : List Tagged} → Every (λ x. p x ≡ false) xs → select p xs ≡ []
  select_none nil = refl
  select_none (cons e c) = rw (e, select_none c)

module _ (r : Role) where
  pub clauses_none : {xs : List Tagged} → Every (λ x. has_role r x ≡ false) xs → clauses r xs ≡ []
  clauses_none nil = refl
  clauses_none (cons e c) = rw (e, clauses_none c)

  pub until_all : {xs : List Tagged} → Every (λ x. has_role r x ≡ false) xs → until r xs ≡ xs
  until_all nil = refl
  until_all (cons {x = x} e c) = rw e (ap (λ z. x ∷ z) (until_all c))

-- ---- heads

module _ (r : Role) where
  pub heads_texts : (xs : List Tagged) → map (λ c. text c.head) (clauses r xs) ≡ texts r xs
  heads_texts [] = refl
  heads_texts (x ∷ xs) = go (has_role r x) (heads_texts xs)
    where
      go :
          (b : Bool) → map (λ c. text c.head) (clauses r xs) ≡ texts r xs
          → map (λ c. text c.head) (cond b (record { head = x; body = until r xs } ∷ clauses r xs) (clauses r xs))
          ≡ map text (prepend_if b x (select (has_role r) xs))
      go true e = ap (λ (l : List (List ℕ)). text x ∷ l) e
      go false e = e

  -- what is made of the parts has the texts of their heads for names
  pub named_by :
      {A : Type 0} (f : Clause → A) (name : A → List ℕ) → ((c : Clause) → name (f c) ≡ text c.head) → (xs : List Tagged)
      → map name (map f (clauses r xs)) ≡ texts r xs
  named_by f name e xs = map_map name f (clauses r xs) ∙ (map_same e (clauses r xs) ∙ heads_texts xs)

-- ---- selecting twice

module _ (p q : Tagged → Bool) (within : (x : Tagged) → q x ≡ true → p x ≡ true) where
  pub select_select : (xs : List Tagged) → select q (select p xs) ≡ select q xs
  select_select [] = refl
  select_select (x ∷ xs) = go (p x) refl (q x) refl (select_select xs)
    where
      go :
          (b : Bool) → p x ≡ b → (c : Bool) → q x ≡ c → select q (select p xs) ≡ select q xs
          → select q (prepend_if b x (select p xs)) ≡ prepend_if c x (select q xs)
      go true d c e h = rw (e, h) refl
      go false d true e h = absurd (false≢true (sym d ∙ within x e))
      go false d false e h = h

-- what says r says one of rs, if r is one of them
pub covered : (rs : List Role) (r : Role) → one_of rs r ≡ true → (x : Tagged) → has_role r x ≡ true → says_one_of rs x ≡ true
covered rs r o x e = subst (λ z. one_of rs z ≡ true) (sym (same_role_is x.role r e)) o

pub same_selected :
    (rs : List Role) (r : Role) → one_of rs r ≡ true → (xs ys : List Tagged)
    → select (says_one_of rs) xs ≡ select (says_one_of rs) ys → select (has_role r) xs ≡ select (has_role r) ys
same_selected rs r o xs ys e =
    sym (select_select (says_one_of rs) (has_role r) (covered rs r o) xs)
    ∙ (ap (select (has_role r)) e ∙ select_select (says_one_of rs) (has_role r) (covered rs r o) ys)

-- ---- a part, and what is made of it

-- f looks at the head of a part and at the tokens of its body that say one of rs, and at no other
abbrev pub LooksAt : {B : Type 0} → List Role → (Clause → B) → Type 0
LooksAt {B} rs f =
    (x : Tagged) (ys zs : List Tagged) → select (says_one_of rs) ys ≡ select (says_one_of rs) zs
    → f (record { head = x; body = ys }) ≡ f (record { head = x; body = zs })

-- none of xs says one of rs before the first that says r
abbrev pub Behind : Role → List Role → List Tagged → Type 0
Behind r rs xs = select (says_one_of rs) (until r xs) ≡ []

module _ (r : Role) (rs : List Role) where
  until_append :
      (xs ys : List Tagged) → Behind r rs ys → select (says_one_of rs) (until r (xs ++ ys)) ≡ select (says_one_of rs) (until r xs)
  until_append [] ys b = b
  until_append (x ∷ xs) ys b = go (has_role r x) (until_append xs ys b)
    where
      go :
          (c : Bool) → select (says_one_of rs) (until r (xs ++ ys)) ≡ select (says_one_of rs) (until r xs)
          → select (says_one_of rs) (keep_if (not c) x (until r (xs ++ ys))) ≡ select (says_one_of rs) (keep_if (not c) x (until r xs))
      go true e = refl
      go false e = ap (prepend_if (says_one_of rs x) x) e

  pub behind_append : (xs ys : List Tagged) → Behind r rs xs → Behind r rs ys → Behind r rs (xs ++ ys)
  behind_append xs ys a b = until_append xs ys b ∙ a

  pub behind_joined : {items : List (List Tagged)} → Every (Behind r rs) items → Behind r rs (joined items)
  behind_joined nil = refl
  behind_joined (cons {x = i} {xs = items} b c) = behind_append i (joined items) b (behind_joined c)

  pub behind_none : {xs : List Tagged} → Every (λ x. says_one_of rs x ≡ false) xs → Behind r rs xs
  behind_none c = select_none (every_run _ c)

  module _ {B : Type 0} (f : Clause → B) (looks : LooksAt rs f) where
    -- the parts of two lists, one behind the other
    pub clauses_append : (xs ys : List Tagged) → Behind r rs ys → map f (clauses r (xs ++ ys)) ≡ map f (clauses r xs) ++ map f (clauses r ys)
    clauses_append [] ys b = refl
    clauses_append (x ∷ xs) ys b = go (has_role r x) (looks x (until r (xs ++ ys)) (until r xs) (until_append xs ys b)) (clauses_append xs ys b)
      where
        go :
            (c : Bool) → f (record { head = x; body = until r (xs ++ ys) }) ≡ f (record { head = x; body = until r xs })
            → map f (clauses r (xs ++ ys)) ≡ map f (clauses r xs) ++ map f (clauses r ys)
            → map f (cond c (record { head = x; body = until r (xs ++ ys) } ∷ clauses r (xs ++ ys)) (clauses r (xs ++ ys)))
            ≡ map f (cond c (record { head = x; body = until r xs } ∷ clauses r xs) (clauses r xs)) ++ map f (clauses r ys)
        go true e h = ap₂ (λ (a : B) (l : List B). a ∷ l) e h
        go false e h = h

    -- THE LAW: what is made of the parts of a list is made of the parts of its items, item by item
    pub clauses_joined :
        {items : List (List Tagged)} → Every (Behind r rs) items → map f (clauses r (joined items)) ≡ joined (map (λ i. map f (clauses r i)) items)
    clauses_joined nil = refl
    clauses_joined (cons {x = i} {xs = items} b c) =
        clauses_append i (joined items) (behind_joined c) ∙ ap (λ (l : List B). map f (clauses r i) ++ l) (clauses_joined c)

    -- tokens that say neither r nor one of rs make no difference
    pub clauses_select :
        (qs : List Role) → one_of qs r ≡ true → all (one_of qs) rs ≡ true → (xs : List Tagged)
        → map f (clauses r (select (says_one_of qs) xs)) ≡ map f (clauses r xs)
    clauses_select qs o w [] = refl
    clauses_select qs o w (x ∷ xs) = go (has_role r x) refl (says_one_of qs x) refl (clauses_select qs o w xs)
      where
        p : Tagged → Bool
        p = says_one_of qs

        until_select : (ys : List Tagged) → until r (select p ys) ≡ select p (until r ys)
        until_select [] = refl
        until_select (y ∷ ys) = step (has_role r y) refl (p y) refl (until_select ys)
          where
            step :
                (b : Bool) → has_role r y ≡ b → (c : Bool) → p y ≡ c → until r (select p ys) ≡ select p (until r ys)
                → until r (prepend_if c y (select p ys)) ≡ select p (keep_if (not b) y (until r ys))
            step true d true e h = rw d refl
            step true d false e h = absurd (false≢true (sym e ∙ covered qs r o y d))
            step false d true e h = rw (d, e, h) refl
            step false d false e h = rw e h

        bodies : select (says_one_of rs) (until r (select p xs)) ≡ select (says_one_of rs) (until r xs)
        bodies = ap (select (says_one_of rs)) (until_select xs) ∙ select_select p (says_one_of rs) (λ y e. one_of_all (one_of qs) rs y.role e w) (until r xs)

        go :
            (b : Bool) → has_role r x ≡ b → (c : Bool) → p x ≡ c → map f (clauses r (select p xs)) ≡ map f (clauses r xs)
            → map f (clauses r (prepend_if c x (select p xs))) ≡ map f (cond b (record { head = x; body = until r xs } ∷ clauses r xs) (clauses r xs))
        go true d true e h = rw d (ap₂ (λ (a : B) (l : List B). a ∷ l) (looks x (until r (select p xs)) (until r xs) bodies) h)
        go true d false e h = absurd (false≢true (sym e ∙ covered qs r o x d))
        go false d true e h = rw d h
        go false d false e h = h

-- ---- parts of what has a head

-- no token says what q passes
never : (q : Role → Bool) (xs : List Tagged) → Every (λ z. not (q z) ≡ true) (roles xs) → Every (λ x. q x.role ≡ false) xs
never q [] e = nil
never q (x ∷ xs) (cons e c) = cons (not-true (q x.role) e) (never q xs c)

-- tokens that say nothing
pub says_nothing :
    (q : Role → Bool) (xs : List Tagged) → not (q NoRole) ≡ true → Every (λ z. one_of (NoRole ∷ []) z ≡ true) (roles xs) → Every (λ x. q x.role ≡ false) xs
says_nothing q xs w c = never q xs (every_implies (λ z o. one_of_all (λ y. not (q y)) (NoRole ∷ []) z o (rw w refl)) c)

-- neither Mute nor h nor one of rs passes q
abbrev pub apart : (Role → Bool) → Role → List Role → Bool
apart q h rs = all (λ z. not (q z)) (NoRole ∷ h ∷ rs)

pub headed_never :
    (q : Role → Bool) {h : Role} {rs : List Role} (xs : List Tagged) → apart q h rs ≡ true → Headed h rs (roles xs)
    → Every (λ x. q x.role ≡ false) xs
headed_never q xs w d = never q xs (headed_all (λ z. not (q z)) w d)

-- what is headed by h has no part headed by r, if none of it may say r
pub other_clauses :
    (r : Role) {h : Role} {rs : List Role} (xs : List Tagged) → apart (λ z. same_role z r) h rs ≡ true → Headed h rs (roles xs) → clauses r xs ≡ []
other_clauses r xs w d = clauses_none r (headed_never (λ z. same_role z r) xs w d)

-- whether what is headed by h has ts only behind r: h is r, or none of it may say one of ts
abbrev pub behind_test : Role → List Role → Role → List Role → Bool
behind_test r ts h rs = not (one_of ts NoRole) && (same_role h r || apart (one_of ts) h rs)

pub headed_behind :
    (r : Role) (ts : List Role) {h : Role} {rs : List Role} (xs : List Tagged) → behind_test r ts h rs ≡ true → Headed h rs (roles xs) → Behind r ts xs
headed_behind r ts {h} {rs} xs w d =
    let v = both (not (one_of ts NoRole)) (same_role h r || apart (one_of ts) h rs) w in
    go (same_role h r) refl v.1 (not-true (one_of ts NoRole) v.0)
  where
    own : (ys : List Tagged) → same_role h r ≡ true → one_of ts NoRole ≡ false → Headed h rs (roles ys) → Behind r ts ys
    own [] e m d = elim d [ ]
    own (y ∷ ys) e m (before f g) = step (has_role r y) (own ys e m g)
      where
        step : (b : Bool) → Behind r ts ys → select (says_one_of ts) (keep_if (not b) y (until r ys)) ≡ []
        step true k = refl
        step false k = rw (f, m) k
    own (y ∷ ys) e m (head f g) = rw (f, e) refl

    go : (b : Bool) → same_role h r ≡ b → b || apart (one_of ts) h rs ≡ true → one_of ts NoRole ≡ false → Behind r ts xs
    go true e v m = own xs e m d
    go false e v m = behind_none r ts (headed_never (one_of ts) xs v d)

-- xs has one token that says r, and it is x
abbrev pub Named : Role → Tagged → List Tagged → Type 0
Named r x xs = select (has_role r) xs ≡ x ∷ []

-- xs has one part with the head r, and what f makes of it is what it makes of all of xs
pub record OneClause {B : Type 0} (r : Role) (f : Clause → B) (xs : List Tagged) : Type 0 where
  pub name : Tagged
  pub named : Named r name xs
  pub clauses : map f (clauses r xs) ≡ f (record { head = name; body = xs }) ∷ []

module _ {B : Type 0} (r : Role) (ts : List Role) (f : Clause → B) (looks : LooksAt ts f) where
  pub own_clause :
      {rs : List Role} (xs : List Tagged) → all (λ z. not (same_role z r)) (NoRole ∷ rs) ≡ true → apart (one_of ts) r [] ≡ true
      → Headed r rs (roles xs) → OneClause r f xs
  own_clause {rs = rs} [] w v d = elim d [ ]
  own_clause (x ∷ xs) w v (before e d) =
      let o = own_clause xs w v d in
      let m = both (not (one_of ts NoRole)) (not (one_of ts r) && true) v in
      let here : has_role r x ≡ false = rw e (not-true (same_role NoRole r) (both (not (same_role NoRole r)) _ w).0) in
      let passed : says_one_of ts x ≡ false = rw e (not-true (one_of ts NoRole) m.0) in
      record {
        name = o.name;
        named = rw here o.named;
        clauses = rw here (o.clauses ∙ ap (λ (b : B). b ∷ []) (looks o.name xs (x ∷ xs) (rw passed refl)));
      }
  own_clause {rs} (x ∷ xs) w v (head e d) =
      let m = both (not (one_of ts NoRole)) (not (one_of ts r) && true) v in
      let here : has_role r x ≡ true = rw e (eq-eqb (role_number r) (role_number r) refl) in
      let passed : says_one_of ts x ≡ false = rw e (not-true (one_of ts r) (both (not (one_of ts r)) true m.1).0) in
      let rest = never (λ z. same_role z r) xs (every_implies (λ z o. one_of_all (λ y. not (same_role y r)) (NoRole ∷ rs) z o w) d) in
      record {
        name = x;
        named = rw (here, select_none rest) refl;
        clauses = rw (here, clauses_none r rest, until_all r rest) (ap (λ (b : B). b ∷ []) (looks x xs (x ∷ xs) (rw passed refl)));
      }
