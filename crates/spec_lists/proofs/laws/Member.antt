-- What holds of all elements of a list holds of each; the first that passes a test is one of them.
use Rattle.std.specs.Prelude.{◌≡◌, refl, Bool, true, false, ℕ}
use mathlib.Core.List.{List, [], ◌∷◌, Memᴰ}
use Rattle.std.proofs.Math.Option.{some}
use Rattle.std.proofs.Common.{arith}
use Rattle.spec_lists.specs.Select.{all, first, first_if}
use Rattle.spec_lists.specs.Every.{Every, nil, cons}
use Rattle.spec_lists.proofs.laws.Both.{both}

module _ {A : Type 0} where
  pub every_member : {P : A → Type 0} {xs : List A} {x : A} → Every P xs → Memᴰ x xs → P x
  every_member nil m = elim m [ ]
  every_member (cons h hs) (Memᴰ.head e) = rw e h
  every_member (cons h hs) (Memᴰ.tail m) = every_member hs m

  pub all_member : (p : A → Bool) (xs : List A) {x : A} → all p xs ≡ true → Memᴰ x xs → p x ≡ true
  all_member p [] h m = elim m [ ]
  all_member p (y ∷ xs) h (Memᴰ.head e) = rw e (both (p y) (all p xs) h).0
  all_member p (y ∷ xs) h (Memᴰ.tail m) = all_member p xs (both (p y) (all p xs) h).1 m

  pub first_member : (p : A → Bool) (xs : List A) {x : A} → first p xs ≡ some x → Memᴰ x xs × (p x ≡ true)
  first_member p [] e = let z : ◌≡◌ {A = ℕ} 0 1 = cc in absurd (omega arith)
  first_member p (y ∷ ys) {x} e = go (p y) refl (first_member p ys) e
    where
      go :
          (t : Bool) → p y ≡ t → (first p ys ≡ some x → Memᴰ x ys × (p x ≡ true)) → first_if t y (first p ys) ≡ some x
          → Memᴰ x (y ∷ ys) × (p x ≡ true)
      go true g f e = let z : x ≡ y = cc in (Memᴰ.head z, rw z g)
      go false g f e = let k = f e in (Memᴰ.tail k.0, k.1)
