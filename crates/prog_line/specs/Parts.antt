-- The parts of a line, one behind the other.
use Rattle.std.specs.Prelude.{◌≡◌, Bool, true, not, ◌==◌, List, [], ◌∷◌, ℕ, Some}
use Rattle.std.specs.List.{position_or_len}
use Rattle.spec_lists.specs.Select.{nonempty}
use Rattle.prog_line.specs.Line.{split, level_of}

-- how many bytes stand before the first space
abbrev pub part_length : List ℕ → ℕ
part_length s = position_or_len (λ b. b == 32) s

-- the parts that follow: none at the end, else those behind a space
abbrev pub behind : List ℕ → List (List ℕ)
behind [] = []
behind (b ∷ s) = split s

-- there is no second part, or the first is empty
abbrev pub no_next : List (List ℕ) → Bool
no_next [] = true
no_next (p ∷ []) = true
no_next (p ∷ q ∷ ps) = not (nonempty p)

-- a text begins with a part that is not empty, and the rest stands behind its space
pub record Next (s part rest : List ℕ) : Type 0 where
  pub fills : nonempty part ≡ true
  pub reads : split s ≡ part ∷ split rest

-- a text begins with the level d
pub record LevelFirst (s : List ℕ) (d : ℕ) (rest : List ℕ) : Type 0 where
  pub part : List ℕ
  pub is : level_of part ≡ Some d
  pub reads : split s ≡ part ∷ behind rest
