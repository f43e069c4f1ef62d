-- A place written: what it leaves, and the changed bit.
use Rattle.std.specs.Prelude.{◌≡◌, List, ℕ, ◌*◌, ◌^◌, get_or}
use Rattle.std.proofs.lemmas.List.Edits.{sets}
use Rattle.spec_rule.specs.Kept.{bit}
use Rattle.spec_register.specs.Register.{Client}
use Rattle.spec_register.specs.Right.{differ}
use Rattle.spec_rule.specs.Number.{decision_from}
use Rattle.spec_places.specs.Storage.{at_place, kept_at, client_bytes, right_in}
use Rattle.spec_places.specs.Calls.{differing_in}

-- the bytes b became c and were to become e; r tells which rights that changed
pub record Left (b e c : List ℕ) (r : ℕ) : Type 0 where
  pub bytes : c ≡ e
  pub changed : r ≡ differing_in b c

-- a client was written into the place p of b, and ks as what is kept of it; r is the place's bit if that changed its right
pub record Enters (b : List ℕ) (p : ℕ) (k : Client) (ks c : List ℕ) (r : ℕ) : Type 0 where
  pub bytes : c ≡ sets (sets b (at_place p) (client_bytes k)) (kept_at p) ks
  pub changed : r ≡ bit (differ (right_in b p) (decision_from (get_or ks 1 0))) * 2 ^ p
