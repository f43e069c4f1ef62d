-- A walk over the access groups of a table by their numbers. The papers have the look-up alone; with the names of all groups a gateway knows what to hear
-- (docs/DECISIONS.md).
use Rattle.std.specs.Prelude.{◌≡◌, cond, ℕ, suc, leb, length, get_or}
use mathlib.Core.List.{List, [], Memᴰ}
use Rattle.std.proofs.Math.Option.{Option, none, some}
use Rattle.spec_file.specs.Limit.{access_groups}
use Rattle.spec_table.specs.View.{view}
use Rattle.spec_table.specs.Check.{is_table}
use Rattle.spec_decision.specs.LookUp.{name_part, named_part}
use Rattle.spec_decision.specs.Groups.{Numbered, groups_of}
use Rattle.spec_decision.specs.declared.Found.{Found}
use Rattle.spec_decision.specs.declared.Found.TheVariants.{NotTable}

-- the access group of a number, and the part of the table that holds its name
pub record NamesGroup (b : List ℕ) (n : ℕ) (p : Found) : Type 0 where
  pub group : Numbered
  pub among : Memᴰ group (groups_of b)
  pub number : group.number ≡ n
  pub has : name_part access_groups b group.row ≡ p

-- ---- A machine that finds it. That it agrees with NamesGroup is proved (proofs/laws/Walk.antt), so nobody has to believe it.

abbrev pub row_at : List (List ℕ) → ℕ → Option (List ℕ)
row_at rows n = cond (leb (suc n) (length rows)) (some (get_or rows n [])) none

-- 20 if the bytes are no table, 22 if it has no group of that number
unfoldable pub group_at : List ℕ → ℕ → Found
group_at b n = cond (is_table b) (named_part access_groups b (row_at ((view b).records access_groups) n)) NotTable
