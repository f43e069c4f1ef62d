-- The first place of a byte, as std's `position` has it.
use Rattle.std.specs.Prelude.{◌≡◌, refl, Bool, true, false, not, cond, List, [], ◌∷◌, ◌+◌, ◌-◌, ◌≤◌, ℕ, suc, eqb, ltb, length, Option, Some, None}
use Rattle.std.specs.List.{position_or_len, between}
use Rattle.std.specs.Option.{unwrap_or}
use Rattle.std.proofs.Common.{arith}
use Rattle.std.proofs.lemmas.Bool.{ltb-false}
use Rattle.std.proofs.lemmas.Slice.{between_is}
use Rattle.std.proofs.lemmas.List.Edits.{length-between}
use Rattle.byte_find.specs.Find.{index_of, index_after, slice}

index_is : (b : ℕ) (xs : List ℕ) → position_or_len (λ x. eqb x b) xs ≡ index_of b xs
index_is b [] = refl
index_is b (x ∷ xs) = go (eqb x b) (index_is b xs)
  where
    go : (t : Bool) → position_or_len (λ x. eqb x b) xs ≡ index_of b xs → cond (not t) (1 + position_or_len (λ x. eqb x b) xs) 0 ≡ index_after t (index_of b xs)
    go true e = refl
    go false e = omega arith

index_within : (b : ℕ) (xs : List ℕ) → index_of b xs ≤ length xs
index_within b [] = omega arith
index_within b (x ∷ xs) = go (eqb x b) (index_within b xs)
  where
    go : (t : Bool) → index_of b xs ≤ length xs → index_after t (index_of b xs) ≤ suc (length xs)
    go true e = omega arith
    go false e = omega arith

-- the place of the first b in a part of s, or how long the part is
pub first_or_all :
    (b i j : ℕ) (s : List ℕ) (r : Option ℕ) → j ≤ length s
    → r ≡ cond (ltb (position_or_len (λ x. eqb x b) (between i j s)) (length (between i j s))) (Some (position_or_len (λ x. eqb x b) (between i j s))) None
    → unwrap_or r (j - i) ≡ index_of b (slice i j s)
first_or_all b i j s r l e = rw (e, ← between_is s i j, index_is b (between i j s)) (go (ltb (index_of b (between i j s)) (length (between i j s))) refl)
  where
    go : (t : Bool) → ltb (index_of b (between i j s)) (length (between i j s)) ≡ t → unwrap_or (cond t (Some (index_of b (between i j s))) None) (j - i) ≡ index_of b (between i j s)
    go true g = refl
    go false g =
        let p = ltb-false (index_of b (between i j s)) (length (between i j s)) g in
        let w = index_within b (between i j s) in
        let n = length-between s i j l in
        omega arith
