-- What functions of one place ask for, from the test of the whole.
use Rattle.std.specs.Prelude.{◌≡◌, true, ◌&&◌, List, ℕ, ◌<◌, length}
use Rattle.std.proofs.Common.{leb-true}
use Rattle.spec_lists.proofs.laws.Both.{both}
use Rattle.spec_register.specs.Register.{most_clients}
use Rattle.spec_places.specs.Storage.{Lent, are_places, places_bytes}
use Rattle.spec_places.specs.Calls.{is_register, are_states, are_values}
use Rattle.reg_bytes.specs.Placed.{Placed}

pub placed : (b : List ℕ) (p : ℕ) → are_places b ≡ true → p < most_clients → Placed b p
placed b p e h = record { inside = h; room = leb-true places_bytes (length b) e }

pub has_places : (s : Lent) → is_register s ≡ true → are_places s.places ≡ true
has_places s e = (both (are_places s.places) (are_states s.states && are_values s.values) e).0
