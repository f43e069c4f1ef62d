-- Which group answers a question, and which levels may be asked for. 01, "The question".
use Rattle.std.specs.Prelude.{Bool, List, [], ◌∷◌, ℕ, leb}
use Rattle.std.proofs.Math.Option.{Option, none, some}
use Rattle.spec_lists.specs.Text.{bytes, same}
use Rattle.spec_lists.specs.Select.{first}

-- 001: "The group DEFAULT is a special case."
abbrev pub default_name : List ℕ
default_name = bytes "DEFAULT"

-- the greatest level
abbrev pub greatest_level : ℕ
greatest_level = 1

-- 0 or 1; else 21, "level neither 0 nor 1"
abbrev pub a_level : ℕ → Bool
a_level n = leb n greatest_level

module _ {G : Type 0} (name : G → List ℕ) where
  -- the first group of that name
  abbrev pub named : List ℕ → List G → Option G
  named n gs = first (λ g. same (name g) n) gs

  abbrev pub or_default : Option G → List G → Option G
  or_default none gs = named default_name gs
  or_default (some g) gs = some g

  -- 01: "An empty name goes to DEFAULT, any other to the first group of that name, or to DEFAULT if there is none"
  abbrev pub answering : List ℕ → List G → Option G
  answering [] gs = named default_name gs
  answering (b ∷ n) gs = or_default (named (b ∷ n) gs) gs
