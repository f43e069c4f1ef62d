-- Where fewer rules pass, the access is no greater; and with a role less, no other rules pass.
use Rattle.std.specs.Prelude.{◌≡◌, refl, Bool, true, false, cond, not, ◌&&◌, ◌||◌, List, [], ◌∷◌, ◌++◌, map, ℕ, ◌≤◌, leb, length, drop}
use Rattle.std.proofs.lemmas.Bool.{false≢true}
use Rattle.std.proofs.Common.{arith, le_refl, leb-true, leb-false}
use Rattle.spec_lists.specs.Text.{same, lowered}
use Rattle.spec_lists.specs.Select.{any, select, prepend_if}
use Rattle.spec_lists.proofs.laws.Both.{both}
use Rattle.spec_lists.proofs.laws.Same.{unchanged}
use Rattle.spec_rule.specs.declared.Access.{Access}
use Rattle.spec_rule.specs.Roles.{role_prefix}
use Rattle.spec_rule.specs.Question.{Question, with_roles}
use Rattle.spec_rule.specs.Rule.{Rule, rank, belongs, begins, matches_question, calculation_holds, asks, passes, greater, greatest, access_by}

-- ---- the greatest of fewer

greater_left : (a b : Access) → rank a ≤ rank (greater a b)
greater_left a b = go (leb (rank a) (rank b)) refl
  where
    go : (t : Bool) → leb (rank a) (rank b) ≡ t → rank a ≤ rank (cond t b a)
    go true h = leb-true (rank a) (rank b) h
    go false h = le_refl (rank a)

greater_right : (a b : Access) → rank b ≤ rank (greater a b)
greater_right a b = go (leb (rank a) (rank b)) refl
  where
    go : (t : Bool) → leb (rank a) (rank b) ≡ t → rank b ≤ rank (cond t b a)
    go true h = le_refl (rank b)
    go false h = let k = leb-false (rank a) (rank b) h in omega arith

greater_least : (a b : Access) (n : ℕ) → rank a ≤ n → rank b ≤ n → rank (greater a b) ≤ n
greater_least a b n x y = go (leb (rank a) (rank b))
  where
    go : (t : Bool) → rank (cond t b a) ≤ n
    go true = y
    go false = x

-- two tests, of what elements stand for and of the elements: where one passes only if the other does, it selects no greater access
module _ {A B : Type 0} (permission : B → Access) (f : A → B) (p : B → Bool) (o : A → Bool) (implies : (x : A) → p (f x) ≡ true → o x ≡ true) where
  abbrev few : List A → Access
  few xs = greatest (map permission (select p (map f xs)))

  abbrev many : List A → Access
  many xs = greatest (map (λ x. permission (f x)) (select o xs))

  pub greatest_fewer : (xs : List A) → rank (few xs) ≤ rank (many xs)
  greatest_fewer [] = le_refl 0
  greatest_fewer (x ∷ xs) = go (p (f x)) (o x) (implies x) (greatest_fewer xs)
    where
      go :
          (a b : Bool) → (a ≡ true → b ≡ true) → rank (few xs) ≤ rank (many xs)
          → rank (greatest (map permission (prepend_if a (f x) (select p (map f xs)))))
          ≤ rank (greatest (map (λ y. permission (f y)) (prepend_if b x (select o xs))))
      go true true h l =
          greater_least
          (permission (f x))
          (few xs)
          (rank (greater (permission (f x)) (many xs)))
          (greater_left (permission (f x)) (many xs))
          (let k = greater_right (permission (f x)) (many xs) in omega arith)
      go true false h l = absurd (false≢true (h refl))
      go false true h l = let k = greater_right (permission (f x)) (many xs) in omega arith
      go false false h l = l

-- ---- a role less

any_implies : {A : Type 0} (p o : A → Bool) → ((x : A) → p x ≡ true → o x ≡ true) → (xs : List A) → any p xs ≡ true → any o xs ≡ true
any_implies p o f [] e = e
any_implies p o f (x ∷ xs) e = go (p x) (o x) (f x) (any_implies p o f xs) e
  where
    go : (a b : Bool) → (a ≡ true → b ≡ true) → (any p xs ≡ true → any o xs ≡ true) → a || any p xs ≡ true → b || any o xs ≡ true
    go a true h g k = refl
    go true false h g k = absurd (false≢true (h refl))
    go false false h g k = g k

any_less : {A : Type 0} (p : A → Bool) (xs : List A) (x : A) (ys : List A) → any p (xs ++ ys) ≡ true → any p (xs ++ (x ∷ ys)) ≡ true
any_less p [] x ys e = go (p x)
  where
    go : (b : Bool) → b || any p ys ≡ true
    go true = refl
    go false = e
any_less p (y ∷ xs) x ys e = go (p y) (any_less p xs x ys) e
  where
    go : (b : Bool) → (any p (xs ++ ys) ≡ true → any p (xs ++ (x ∷ ys)) ≡ true) → b || any p (xs ++ ys) ≡ true → b || any p (xs ++ (x ∷ ys)) ≡ true
    go true f h = refl
    go false f h = f h

belongs_implies :
    (p o : List ℕ → Bool) → ((m : List ℕ) → p m ≡ true → o m ≡ true) → (gs : List (List (List ℕ))) → belongs p gs ≡ true → belongs o gs ≡ true
belongs_implies p o f [] e = refl
belongs_implies p o f (g ∷ gs) e = any_implies (any p) (any o) (any_implies p o f) (g ∷ gs) e

module _ (q : Question) (before : List (List ℕ)) (role : List ℕ) (behind : List (List ℕ)) (e : q.roles ≡ before ++ (role ∷ behind)) where
  abbrev less : Question
  less = with_roles q (before ++ behind)

  matches_less : (m : List ℕ) → matches_question less m ≡ true → matches_question q m ≡ true
  matches_less m = rw e (go (begins role_prefix m))
    where
      rest : List ℕ
      rest = drop (length role_prefix) m

      go :
          (b : Bool) → cond b (any (same rest) (before ++ behind)) (same q.user m) ≡ true
          → cond b (any (same rest) (before ++ (role ∷ behind))) (same q.user m) ≡ true
      go true h = any_less (same rest) before role behind h
      go false h = h

  asks_less : (r : Rule) → asks r less ≡ true → asks r q ≡ true
  asks_less r h =
      let host = belongs (same (lowered q.host)) r.hags in
      let calculation = calculation_holds q.readings r.calculation in
      let x = both (leb q.level r.level) (belongs (matches_question less) r.uags && (host && calculation)) h in
      let y = both (belongs (matches_question less) r.uags) (host && calculation) x.1 in
      rw (x.0, belongs_implies (matches_question less) (matches_question q) matches_less r.uags y.0) y.1

  passes_less : (r : Rule) → passes less r ≡ true → passes q r ≡ true
  passes_less r h = let x = both (not r.switched_off) (asks r less) h in rw x.0 (asks_less r x.1)

  pub access_less : (rs : List Rule) → rank (access_by less rs) ≤ rank (access_by q rs)
  access_less rs = rw (unchanged rs) at (greatest_fewer (λ r. r.permission) (λ r. r) (passes less) (passes q) passes_less rs)
