-- What the functions of one place ask for, and what they find in it.
use Rattle.std.specs.Prelude.{Option, Some, None, cond, List, ℕ, ◌≤◌, ◌<◌, eqb, length}
use Rattle.spec_register.specs.Register as register
use Rattle.spec_register.specs.Register.{client_of, most_clients}
use Rattle.spec_places.specs.Storage.{places_bytes}
use Rattle.spec_places.specs.Calls.{free_in}
use Rattle.reg_bytes.specs.declared.Client.{Client}

-- the bytes are long enough for a register's places, of which p is one
pub record Placed (b : List ℕ) (p : ℕ) : Type 0 where
  pub inside : p < most_clients
  pub room : places_bytes ≤ length b

-- the lowest free place, if there is one
abbrev pub free_place : List ℕ → Option ℕ
free_place b = cond (eqb (free_in b) most_clients) None (Some (free_in b))

-- the client that is lent
abbrev pub client_lent : Client → register.Client
client_lent c = client_of c.group.now c.level c.user.now c.host.now
