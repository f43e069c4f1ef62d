-- Rights settled by a table, no reading heard: what the functions promise.
use Rattle.std.specs.Prelude.{◌≡◌, List, ℕ}
use Rattle.spec_rule.specs.Kept.{bit}
use Rattle.spec_register.specs.Register.{most_clients, never_heard}
use Rattle.spec_register.specs.Right.{differ}
use Rattle.spec_places.specs.Storage.{at_place, client_from, right_in}
use Rattle.spec_places.specs.Writing.{kept, each, settled}
use Rattle.spec_places.specs.Calls.{differing_in}

-- what a taken place is to keep
abbrev pub kept_here : List ℕ → List ℕ → ℕ → List ℕ
kept_here t b p = kept t (λ i. never_heard) (client_from b (at_place p))

-- a place settled, and a bit for whether its right has changed
pub record SettlesPlace (t : List ℕ) (p : ℕ) (before after : List ℕ) (m : ℕ) : Type 0 where
  pub left : after ≡ settled t before p
  pub changed : m ≡ bit (differ (right_in before p) (right_in after p))

-- all places settled, and a bit for each whose right has changed
pub record AllSettled (t : List ℕ) (before after : List ℕ) (m : ℕ) : Type 0 where
  pub left : after ≡ each (settled t) most_clients before
  pub changed : m ≡ differing_in before after
