-- The first of some names that is a text.
use Rattle.std.specs.Prelude.{cond, List, [], ◌∷◌, ℕ, suc}
use Rattle.spec_lists.specs.Text.{same}

-- how many of some names stand before the first that is the text t
abbrev pub position : List ℕ → List (List ℕ) → ℕ
position t [] = 0
position t (n ∷ ns) = cond (same n t) 0 (suc (position t ns))
