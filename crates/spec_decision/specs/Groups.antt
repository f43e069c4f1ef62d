-- The access groups of a table by their numbers: which has a name, which answers for one.
use Rattle.std.specs.Prelude.{List, [], ◌∷◌, ℕ, suc}
use Rattle.std.proofs.Math.Option.{Option, map}
use Rattle.spec_rule.specs.Answering.{default_name, named, answering}
use Rattle.spec_file.specs.Limit.{access_groups}
use Rattle.spec_table.specs.View.{view}
use Rattle.spec_table.specs.Policy.{name}

-- an access group of a table with its number, the first being 0
pub record Numbered : Type 0 where
  pub number : ℕ
  pub row : List ℕ

abbrev pub numbered : ℕ → List (List ℕ) → List Numbered
numbered n [] = []
numbered n (row ∷ rows) = record { number = n; row = row } ∷ numbered (suc n) rows

abbrev pub groups_of : List ℕ → List Numbered
groups_of b = numbered 0 ((view b).records access_groups)

abbrev pub group_name : List ℕ → Numbered → List ℕ
group_name b g = name (view b) access_groups g.row

-- 02: "an access group given by name (the first so named; empty is DEFAULT)"
abbrev pub full_name : List ℕ → List ℕ
full_name [] = default_name
full_name (b ∷ n) = b ∷ n

abbrev pub group_named : List ℕ → List ℕ → Option Numbered
group_named b n = named (group_name b) (full_name n) (groups_of b)

-- 01: "An empty name goes to DEFAULT, any other to the first group of that name, or to DEFAULT if there is none"
abbrev pub group_answering : List ℕ → List ℕ → Option Numbered
group_answering b n = answering (group_name b) n (groups_of b)

-- the number of the group that answers for a name
abbrev pub answering_number : List ℕ → List ℕ → Option ℕ
answering_number b n = map (λ g. g.number) (group_answering b n)
