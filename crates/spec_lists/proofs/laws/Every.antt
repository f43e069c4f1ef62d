-- Laws of Every and First.
use Rattle.std.specs.Prelude.{◌≡◌, refl, Bool, true, false, ◌&&◌, List, [], ◌∷◌, ◌++◌, map, ℕ, zero, suc, take, drop, get_or}
use Rattle.std.proofs.Common.{ap, subst}
use Rattle.std.proofs.lemmas.Bool.{false≢true}
use Rattle.std.proofs.Math.Option.{none, some}
use Rattle.spec_lists.specs.Select.{all, select, prepend_if, first, first_if, run, keep_if, joined}
use Rattle.spec_lists.specs.Every.{Every, nil, cons, First}
use Rattle.spec_lists.proofs.laws.Both.{both}

module _ {A : Type 0} where
  pub every : {P : A → Type 0} → ((x : A) → P x) → (xs : List A) → Every P xs
  every f [] = nil
  every f (x ∷ xs) = cons (f x) (every f xs)

  pub every_append : {P : A → Type 0} {xs ys : List A} → Every P xs → Every P ys → Every P (xs ++ ys)
  every_append nil d = d
  every_append (cons p c) d = cons p (every_append c d)

  pub every_implies : {P Q : A → Type 0} {xs : List A} → ((x : A) → P x → Q x) → Every P xs → Every Q xs
  every_implies f nil = nil
  every_implies f (cons {x = x} p c) = cons (f x p) (every_implies f c)

  pub every_take : {P : A → Type 0} (n : ℕ) {xs : List A} → Every P xs → Every P (take n xs)
  every_take zero e = nil
  every_take (suc n) nil = nil
  every_take (suc n) (cons p c) = cons p (every_take n c)

  pub every_drop : {P : A → Type 0} (n : ℕ) {xs : List A} → Every P xs → Every P (drop n xs)
  every_drop zero e = e
  every_drop (suc n) nil = nil
  every_drop (suc n) (cons p c) = every_drop n c

  pub every_select : {P : A → Type 0} (p : A → Bool) {xs : List A} → Every P xs → Every P (select p xs)
  every_select p nil = nil
  every_select {P} p (cons {x = x} {xs = xs} h c) = go (p x) (every_select p c)
    where
      go : (b : Bool) → Every P (select p xs) → Every P (prepend_if b x (select p xs))
      go true d = cons h d
      go false d = d

  pub every_run : {P : A → Type 0} (p : A → Bool) {xs : List A} → Every P xs → Every P (run p xs)
  every_run p nil = nil
  every_run {P} p (cons {x = x} {xs = xs} h c) = go (p x) (every_run p c)
    where
      go : (b : Bool) → Every P (run p xs) → Every P (keep_if b x (run p xs))
      go true d = cons h d
      go false d = nil

  -- the test of all, from each and to each
  pub every_all : (p : A → Bool) {xs : List A} → Every (λ x. p x ≡ true) xs → all p xs ≡ true
  every_all p nil = refl
  every_all p (cons e c) = rw (e, every_all p c)

  pub all_every : (p : A → Bool) (xs : List A) → all p xs ≡ true → Every (λ x. p x ≡ true) xs
  all_every p [] e = nil
  all_every p (x ∷ xs) e = let h = both (p x) (all p xs) e in cons h.0 (all_every p xs h.1)

  -- of two lists, one behind the other
  pub all_append : (p : A → Bool) (xs ys : List A) → all p (xs ++ ys) ≡ all p xs && all p ys
  all_append p [] ys = refl
  all_append p (x ∷ xs) ys = go (p x) (all_append p xs ys)
    where
      go : (b : Bool) → all p (xs ++ ys) ≡ all p xs && all p ys → (b && all p (xs ++ ys)) ≡ ((b && all p xs) && all p ys)
      go true e = e
      go false e = refl

  pub every_at : {P : A → Type 0} {xs : List A} (n : ℕ) (d : A) → P d → Every P xs → P (get_or xs n d)
  every_at n d p nil = p
  every_at zero d p (cons q e) = q
  every_at (suc n) d p (cons q e) = every_at n d p e

  -- the first that passes, if none does
  pub first_none : (p : A → Bool) (xs : List A) → first p xs ≡ none → Every (λ x. p x ≡ false) xs
  first_none p [] e = nil
  first_none p (x ∷ xs) e = go (p x) refl (first_none p xs) e
    where
      go : (b : Bool) → p x ≡ b → (first p xs ≡ none → Every (λ y. p y ≡ false) xs) → first_if b x (first p xs) ≡ none → Every (λ y. p y ≡ false) (x ∷ xs)
      go true h f g = let z : false ≡ true = cc in absurd (false≢true z)
      go false h f g = cons h (f g)

  pub first_is : (p : A → Bool) (xs : List A) (x : A) → first p xs ≡ some x → First p xs x
  first_is p [] x e = let z : false ≡ true = cc in absurd (false≢true z)
  first_is p (y ∷ ys) x e = go (p y) refl (first_is p ys x) e
    where
      go : (b : Bool) → p y ≡ b → (first p ys ≡ some x → First p ys x) → first_if b y (first p ys) ≡ some x → First p (y ∷ ys) x
      go true h f g =
          let same : y ≡ x = cc in
          record { earlier = []; later = ys; among = ap (λ (z : A). z ∷ ys) same; fail = nil; pass = subst (λ (z : A). p z ≡ true) same h }
      go false h f g =
          let w = f g in
          record { earlier = y ∷ w.earlier; later = w.later; among = ap (λ (zs : List A). y ∷ zs) w.among; fail = cons h w.fail; pass = w.pass }

  pub none_first : (p : A → Bool) {xs : List A} → Every (λ x. p x ≡ false) xs → first p xs ≡ none
  none_first p nil = refl
  none_first p (cons h c) = rw (h, none_first p c)

module _ {A : Type 0} {P : A → Type 0} where
  pub every_both : {Q R : A → Type 0} → ((x : A) → P x → Q x → R x) → {xs : List A} → Every P xs → Every Q xs → Every R xs
  every_both f nil d = nil
  every_both f (cons {x = x} p c) (cons q d) = cons (f x p q) (every_both f c d)

  pub every_head : {x : A} {xs : List A} → Every P (x ∷ xs) → P x
  every_head (cons p c) = p

  pub every_split : (xs : List A) {ys : List A} → Every P (xs ++ ys) → Every P xs × Every P ys
  every_split [] e = (nil, e)
  every_split (x ∷ xs) (cons p e) = (cons p (every_split xs e).0, (every_split xs e).1)

pub every_map : {A B : Type 0} {P : B → Type 0} (f : A → B) {xs : List A} → Every (λ x. P (f x)) xs → Every P (map f xs)
every_map f nil = nil
every_map f (cons p c) = cons p (every_map f c)

pub every_unmap : {A B : Type 0} {P : B → Type 0} (f : A → B) (xs : List A) → Every P (map f xs) → Every (λ x. P (f x)) xs
every_unmap f [] nil = nil
every_unmap f (x ∷ xs) (cons p c) = cons p (every_unmap f xs c)

pub every_joined : {A : Type 0} {P : A → Type 0} {xs : List (List A)} → Every (Every P) xs → Every P (joined xs)
every_joined nil = nil
every_joined (cons e c) = every_append e (every_joined c)

-- and of each of the lists that were joined
pub every_unjoin : {A B : Type 0} {P : B → Type 0} (f : A → List B) (xs : List A) → Every P (joined (map f xs)) → Every (λ x. Every P (f x)) xs
every_unjoin f [] e = nil
every_unjoin f (x ∷ xs) e = let s = every_split (f x) e in cons s.0 (every_unjoin f xs s.1)

-- what leaves each element leaves the list
pub map_fixed : {A : Type 0} (f : A → A) {xs : List A} → Every (λ x. f x ≡ x) xs → map f xs ≡ xs
map_fixed f nil = refl
map_fixed f (cons e c) = cc (e, map_fixed f c)
