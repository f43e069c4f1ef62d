-- Laws of some element of a list passing a test.
use Rattle.std.specs.Prelude.{◌≡◌, refl, Bool, true, false, ◌||◌, List, [], ◌∷◌, ◌++◌, map}
use Rattle.std.proofs.Common.{ap}
use Rattle.spec_lists.specs.Select.{any, nonempty}
use Rattle.spec_lists.specs.Every.{Every, nil, cons}
use Rattle.spec_lists.proofs.laws.Both.{neither}

pub any_map : {A B : Type 0} (p : B → Bool) (f : A → B) (xs : List A) → any p (map f xs) ≡ any (λ x. p (f x)) xs
any_map p f [] = refl
any_map p f (x ∷ xs) = ap (λ (b : Bool). p (f x) || b) (any_map p f xs)

pub any_same : {A : Type 0} (p q : A → Bool) → ((x : A) → p x ≡ q x) → (xs : List A) → any p xs ≡ any q xs
any_same p q e [] = refl
any_same p q e (x ∷ xs) = rw (e x, any_same p q e xs)

pub any_append : {A : Type 0} (p : A → Bool) (xs ys : List A) → any p (xs ++ ys) ≡ any p xs || any p ys
any_append p [] ys = refl
any_append p (x ∷ xs) ys = rw (any_append p xs ys) (go (p x))
  where
    go : (a : Bool) → a || (any p xs || any p ys) ≡ (a || any p xs) || any p ys
    go true = refl
    go false = refl

-- an element that stands between two lists, or is put before the first
pub or_between : (a x b : Bool) → (x || a) || b ≡ a || (x || b)
or_between true true b = refl
or_between true false b = refl
or_between false true b = refl
or_between false false b = refl

-- none passes, as a test and of each
pub any_none : {A : Type 0} (p : A → Bool) (xs : List A) → any p xs ≡ false → Every (λ x. p x ≡ false) xs
any_none p [] e = nil
any_none p (x ∷ xs) e = let h = neither (p x) (any p xs) e in cons h.0 (any_none p xs h.1)

pub none_any : {A : Type 0} (p : A → Bool) {xs : List A} → Every (λ x. p x ≡ false) xs → any p xs ≡ false
none_any p nil = refl
none_any p (cons h e) = rw (h, none_any p e)

pub nonempty_map : {A B : Type 0} (f : A → B) (xs : List A) → nonempty (map f xs) ≡ nonempty xs
nonempty_map f [] = refl
nonempty_map f (x ∷ xs) = refl
