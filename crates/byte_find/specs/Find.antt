-- Where a byte stands first.
use Rattle.std.specs.Prelude.{Bool, true, false, List, [], ◌∷◌, ℕ, zero, suc, eqb, take, drop}

-- the bytes from an offset on and before another one
abbrev pub slice : ℕ → ℕ → List ℕ → List ℕ
slice from to s = drop from (take to s)

-- by whether the first byte is the one that is looked for, and how many of the others stand before it
abbrev pub index_after : Bool → ℕ → ℕ
index_after true n = zero
index_after false n = suc n

-- how many bytes stand before the first b; all, where there is none
abbrev pub index_of : ℕ → List ℕ → ℕ
index_of b [] = zero
index_of b (x ∷ xs) = index_after (eqb x b) (index_of b xs)
