-- Rights renewed by the outcomes of a group's calculations: what the functions promise for every readings that have these outcomes.
use Rattle.std.specs.Prelude.{◌≡◌, List, ℕ, length, take}
use Rattle.spec_calc.specs.declared.Reading.{Reading}
use Rattle.spec_rule.specs.Kept.{bit, outcome_bytes}
use Rattle.spec_register.specs.Register.{most_clients}
use Rattle.spec_register.specs.Right.{differ}
use Rattle.spec_places.specs.Storage.{right_in}
use Rattle.spec_places.specs.Writing.{rules_at, each, renewed}
use Rattle.spec_places.specs.Calls.{differing_in}

-- a list begins with the outcomes of the i-th group's calculations of some readings
abbrev pub Outcomes : List ℕ → ℕ → List ℕ → List Reading → Type 0
Outcomes t i os rs = take (length (rules_at t i)) os ≡ outcome_bytes rs (rules_at t i)

-- a place renewed, and a bit for whether its right has changed
pub record RenewsPlace (t : List ℕ) (i : ℕ) (os : List ℕ) (p : ℕ) (before after : List ℕ) (m : ℕ) : Type 0 where
  pub left : (rs : List Reading) → Outcomes t i os rs → after ≡ renewed t i rs before p
  pub changed : m ≡ bit (differ (right_in before p) (right_in after p))

-- all places renewed, and a bit for each whose right has changed
pub record AllRenewed (t : List ℕ) (i : ℕ) (rs : List Reading) (before after : List ℕ) (m : ℕ) : Type 0 where
  pub left : after ≡ each (renewed t i rs) most_clients before
  pub changed : m ≡ differing_in before after

abbrev pub RenewsAll : List ℕ → ℕ → List ℕ → List ℕ → List ℕ → ℕ → Type 0
RenewsAll t i os before after m = (rs : List Reading) → Outcomes t i os rs → AllRenewed t i rs before after m
