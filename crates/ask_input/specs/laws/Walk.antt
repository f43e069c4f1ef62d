-- The walk over groups, from a group's number and the count of all.
use Rattle.std.specs.Prelude.{◌≡◌, true, false, List, ℕ, suc, ◌≤◌, ◌<◌, length}
use Rattle.std.proofs.Math.Path.{refl}
use borrow.Author.Tests.{le-leb, lt-leb}
use Rattle.std.proofs.Common.{arith}
use Rattle.spec_file.specs.Limit.{access_groups}
use Rattle.spec_table.specs.View.{view}
use Rattle.spec_table.specs.Check.{is_table}
use Rattle.spec_table.specs.Policy.{row}
use Rattle.spec_decision.specs.declared.Found.TheVariants.{NotTable, NoInput}
use Rattle.spec_decision.specs.LookUp.{name_part}
use Rattle.spec_decision.specs.Walk.{group_at}

module _ (b : List ℕ) (n : ℕ) where
  pub group_not : is_table b ≡ false → group_at b n ≡ NotTable
  unfolding group_at
  group_not h = rw h

  pub group_found : is_table b ≡ true → n < length ((view b).records access_groups) → group_at b n ≡ name_part access_groups b (row (view b) access_groups n)
  unfolding group_at
  group_found h l = rw (h, le-leb (suc n) (length ((view b).records access_groups)) l) refl

  pub group_none : is_table b ≡ true → length ((view b).records access_groups) ≤ n → group_at b n ≡ NoInput
  unfolding group_at
  group_none h l = rw (h, lt-leb (suc n) (length ((view b).records access_groups)) (omega arith)) refl
