-- What a place keeps of its client, as the code hands it on.
use Rattle.std.specs.Prelude.{◌≡◌, List, [], ◌∷◌, ℕ, ◌≤◌, Float, length, take, replicate}
use Rattle.std.proofs.Math.Option.{some}
use Rattle.std.proofs.lemmas.List.Edits.{sets}
use Rattle.spec_calc.specs.declared.Reading.{Reading}
use Rattle.spec_rule.specs.Kept.{outcome_bytes}
use Rattle.spec_file.specs.Limit.{most, rules}
use Rattle.spec_register.specs.Register.{Client, client_of}
use Rattle.spec_places.specs.Storage.{readings_in}
use Rattle.spec_places.specs.Writing.{rules_at, kept_by, kept}
use Rattle.reg_kept.specs.declared.Kept.{Kept}

abbrev pub kept_bytes : Kept → List ℕ
kept_bytes k = k.number ∷ k.right ∷ take k.count k.flags

-- k holds these bytes, and a place has room for them
pub record Keeps (bytes : List ℕ) (k : Kept) : Type 0 where
  pub is : kept_bytes k ≡ bytes
  pub few : k.count ≤ most rules
  pub whole : length k.flags ≡ most rules

-- what a place keeps of a client
abbrev pub kept_of : List ℕ → List ℕ → List Float → Client → List ℕ
kept_of t states values c = kept t (readings_in states values) c

-- the same where the i-th access group answers: the group's name plays no part then
abbrev pub kept_by_number : List ℕ → List ℕ → List Float → ℕ → Client → List ℕ
kept_by_number t states values i c = kept_by t (readings_in states values) (client_of [] c.level c.user c.host) (some i)

-- the outcomes of the i-th group's calculations of some readings, then false
abbrev pub outcomes_from : List ℕ → ℕ → List Reading → List ℕ
outcomes_from t i rs = sets (replicate (most rules) 0) 0 (outcome_bytes rs (rules_at t i))

-- of the group's readings now
abbrev pub outcomes_now : List ℕ → ℕ → List ℕ → List Float → List ℕ
outcomes_now t i states values = outcomes_from t i (readings_in states values i)
