-- What a function gives for the numbers below m, as a list: looked up, set at one place.
use Rattle.std.specs.Prelude.{◌≡◌, refl, List, map, ◌≢◌, ℕ, zero, suc, ◌+◌, ◌≤◌, ◌<◌, length, get_or, set, replicate}
use Rattle.std.proofs.Common.{sym, ap, ◌∙◌, zero-add, arith, length-set, get_or-set_same, get_or-set_other, ext_get_or}
use Rattle.std.proofs.Math.Decide.{ℕ_discrete}
use Rattle.std.proofs.lemmas.List.{length-map, length-replicate, get_or-replicate}
use Rattle.std.proofs.Math.ListN.{get_or-eq_default}
use Rattle.spec_register.specs.Right.{from}

from_length : (n m : ℕ) → length (from n m) ≡ m
from_length n zero = refl
from_length n (suc m) = ap suc (from_length (suc n) m)

module _ {A : Type 0} (f : ℕ → A) where
  from_at : (n m i : ℕ) (d : A) → i < m → get_or (map f (from n m)) i d ≡ f (n + i)
  from_at n zero i d l = absurd (omega arith)
  from_at n (suc m) zero d l = let e : n ≡ n + 0 = omega arith in ap f e
  from_at n (suc m) (suc i) d l = let e : suc n + i ≡ n + suc i = omega arith in from_at (suc n) m i d (omega arith) ∙ ap f e

  pub given_length : (m : ℕ) → length (map f (from 0 m)) ≡ m
  given_length m = length-map (from 0 m) f ∙ from_length 0 m

  pub given_at : (m i : ℕ) (d : A) → i < m → get_or (map f (from 0 m)) i d ≡ f i
  given_at m i d l = from_at 0 m i d l ∙ ap f (zero-add i)

  pub given_beyond : (m i : ℕ) (d : A) → m ≤ i → get_or (map f (from 0 m)) i d ≡ d
  given_beyond m i d l = get_or-eq_default (map f (from 0 m)) d (omega (arith, given_length m))

  pub given_is : (m : ℕ) (xs : List A) → length xs ≡ m → ((i : ℕ) → i < m → f i ≡ get_or xs i (f 0)) → map f (from 0 m) ≡ xs
  given_is m xs l h =
      ext_get_or
      (f 0)
      (map f (from 0 m))
      xs
      (given_length m ∙ sym l)
      (λ i k. let j : i < m = omega (arith, given_length m) in given_at m i (f 0) j ∙ h i j)

  -- one thing for all
  pub given_one : (m : ℕ) (a : A) → ((i : ℕ) → i < m → f i ≡ a) → map f (from 0 m) ≡ replicate m a
  given_one m a h = given_is m (replicate m a) (length-replicate m a) (λ i l. h i l ∙ sym (get_or-replicate m i a (f 0) l))

module _ {A : Type 0} (f g : ℕ → A) (m : ℕ) where
  -- functions that agree below m
  pub given_same : ((i : ℕ) → i < m → f i ≡ g i) → map f (from 0 m) ≡ map g (from 0 m)
  given_same h = given_is f m (map g (from 0 m)) (given_length g m) (λ i l. h i l ∙ sym (given_at g m i (f 0) l))

  -- that agree but at p
  pub given_set : (p : ℕ) (a : A) → p < m → g p ≡ a → ((i : ℕ) → i < m → i ≢ p → g i ≡ f i) → map g (from 0 m) ≡ set (map f (from 0 m)) p a
  given_set p a l e h =
      given_is
      g
      m
      (set (map f (from 0 m)) p a)
      (length-set (map f (from 0 m)) p a ∙ given_length f m)
      (λ i k. at i k (ℕ_discrete i p))
    where
      at : (i : ℕ) → i < m → Dec (i ≡ p) → g i ≡ get_or (set (map f (from 0 m)) p a) i (g 0)
      at i k (yes s) = rw s (e ∙ sym (get_or-set_same (map f (from 0 m)) p a (g 0) (omega (arith, given_length f m))))
      at i k (no s) = h i k s ∙ sym (get_or-set_other (map f (from 0 m)) p i a (g 0) s ∙ given_at f m i (g 0) k)
