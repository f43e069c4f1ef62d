-- A load under a register, as the machine on lent storage says (spec_places).
use Rattle.std.specs.Prelude.{◌≡◌, List, ℕ, Float}
use Rattle.spec_register.specs.declared.Reloaded.{Reloaded}
use Rattle.spec_places.specs.Storage.{Lent, lent}
use Rattle.spec_places.specs.Calls.{left_reloaded, told_reloaded}

-- the answer, and the lent bytes afterwards
pub record Reloads (before : Lent) (text : List ℕ) (after : Lent) (r : Reloaded) : Type 0 where
  pub told : r ≡ told_reloaded before text
  pub left : after ≡ left_reloaded before text

-- the same whatever values stand beside the states: a load neither reads nor writes them
abbrev pub ReloadsAny : (table places states text table' places' states' : List ℕ) → Reloaded → Type 0
ReloadsAny t p s text t' p' s' r = (values : List Float) → Reloads (lent t p s values) text (lent t' p' s' values) r
