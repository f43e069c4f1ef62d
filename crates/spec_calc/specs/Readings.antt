-- Readings, before and after some have gone bad.
use Rattle.std.specs.Prelude.{◌≡◌, false, List, ◌⊎◌, ℕ}
use Rattle.spec_calc.specs.declared.Reading.{Reading}
use Rattle.spec_calc.specs.Value.{reading, good}

-- whichever readings have gone bad: at each letter, qs has the reading of rs, or a bad one
abbrev pub GoneBad : List Reading → List Reading → Type 0
GoneBad rs qs = (i : ℕ) → (reading qs i ≡ reading rs i) ⊎ (good (reading qs i) ≡ false)
