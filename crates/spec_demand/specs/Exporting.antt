-- What the front page says of an export. 02, ticket 6.
use Rattle.std.specs.Prelude.{◌≡◌, List, [], ◌↔◌, ℕ}
use Rattle.std.proofs.Math.Option.{none}
use Rattle.spec_rule.specs.Question.{Question}
use Rattle.spec_file.specs.Contents.{File}
use Rattle.spec_decision.specs.Decision.{decide}
use Rattle.spec_decision.specs.LookUp.{look_up, part_in, number}
use Rattle.spec_export.specs.Export.{export}

-- a file of unknown items only: no UAG, no HAG, no ASG
pub record DefinesNothing (f : File) : Type 0 where
  pub uags : f.uags ≡ []
  pub hags : f.hags ≡ []
  pub asgs : f.asgs ≡ []

-- the look-up of a group's letter finds the name n
pub record LooksUp (b g : List ℕ) (letter : ℕ) (n : List ℕ) : Type 0 where
  pub found : number (look_up b g letter) ≡ none
  pub named : part_in (look_up b g letter) b ≡ n

-- "the loaded table answers every question alike, and exporting it gives the same text": two tables, bytes behind them or not
pub record Alike (b c : List ℕ) : Type 0 where
  -- access, trap and letter, or the refusal
  pub answers : (q : Question) → decide c q ≡ decide b q
  pub inputs : (g : List ℕ) (letter : ℕ) (n : List ℕ) → LooksUp c g letter n ↔ LooksUp b g letter n
  pub texts : (lent : List ℕ) → export lent c ≡ export lent b
