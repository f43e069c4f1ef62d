-- Runs: where each of some lists stands when all are put one behind the other. Names in strings and records in sections are runs alike.
use Rattle.std.specs.Prelude.{List, [], ◌∷◌, ℕ, ◌+◌, length, take, drop}
use Rattle.spec_lists.specs.Select.{joined}

pub record Run : Type 0 where
  pub first : ℕ
  pub count : ℕ

module _ {A : Type 0} where
  -- the runs of some lists that stand from the number n on
  abbrev pub runs : ℕ → List (List A) → List Run
  runs n [] = []
  runs n (x ∷ xs) = record { first = n; count = length x } ∷ runs (n + length x) xs

  -- what stands in a run
  abbrev pub part : Run → List A → List A
  part r xs = take r.count (drop r.first xs)

  -- the runs of some lists of lists
  abbrev pub spread : ℕ → List (List (List A)) → List (List Run)
  spread n [] = []
  spread n (xs ∷ xss) = runs n xs ∷ spread (n + length (joined xs)) xss
