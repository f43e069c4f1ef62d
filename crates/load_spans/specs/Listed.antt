-- The tokens of one role, by their indices.
use Rattle.std.specs.Prelude.{◌≡◌, cond, List, [], ◌∷◌, ℕ, zero, suc, ◌+◌, ◌-◌, ◌≤◌, eqb, length, get_or}
use Rattle.std.proofs.lemmas.List.Edits.{sets}

-- those of k tokens from the i-th on whose role is q
unfoldable pub indices : ℕ → List ℕ → ℕ → ℕ → List ℕ
indices q roles i zero = []
indices q roles i (suc k) = cond (eqb (get_or roles i 0) q) (i ∷ indices q roles (suc i) k) (indices q roles (suc i) k)

-- names became list by listing the tokens of a role, r of them; what there is no room for is counted only
pub record Listed (names list : List ℕ) (q : ℕ) (roles : List ℕ) (n r : ℕ) : Type 0 where
  pub listed : list ≡ sets names 0 (indices q roles 0 n)
  pub count : r ≡ length (indices q roles 0 n)

-- ---- a turn of the loop that lists

module _ (q : ℕ) (roles : List ℕ) (names : List ℕ) (n : ℕ) where
  -- with k listed before the i-th token, what is left to list comes to all
  pub record ToList (b : List ℕ) (k i : ℕ) : Type 0 where
    pub bytes : sets b k (indices q roles i (n - i)) ≡ sets names 0 (indices q roles 0 n)
    pub count : k + length (indices q roles i (n - i)) ≡ length (indices q roles 0 n)
    pub few : k ≤ i
    pub long : length b ≡ length names
