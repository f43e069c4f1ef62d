-- What a register holds: clients and readings. 02, ticket 1.
use Rattle.std.specs.Prelude.{List, ℕ, get_or, set, replicate}
use Rattle.std.proofs.Math.Option.{Option, none}
use Rattle.spec_calc.specs.declared.Reading.{Reading}
use Rattle.spec_calc.specs.declared.Reading.TheVariants.{NeverHeard}
use Rattle.spec_file.specs.Limit.{most, access_groups}

-- "a client (group, level, user, host)"
pub record Client : Type 0 where
  pub group : List ℕ
  pub level : ℕ
  pub user : List ℕ
  pub host : List ℕ

abbrev pub client_of : List ℕ → ℕ → List ℕ → List ℕ → Client
client_of g l u h = record { group = g; level = l; user = u; host = h }

-- "Our gateway holds up to 64 connected clients."
abbrev pub most_clients : ℕ
most_clients = 64

-- the letters A to U
abbrev pub letters : ℕ
letters = 21

pub record Register : Type 0 where
  -- by place; a free place has none
  pub clients : List (Option Client)
  -- of each access group by its number in the table, those of its letters
  pub readings : List (List Reading)

abbrev pub client_at : Register → ℕ → Option Client
client_at r p = get_or r.clients p none

abbrev pub never_heard : List Reading
never_heard = replicate letters NeverHeard

-- the readings of the i-th access group
abbrev pub readings_at : Register → ℕ → List Reading
readings_at r i = get_or r.readings i never_heard

-- "every reading never heard"
abbrev pub all_never_heard : List (List Reading)
all_never_heard = replicate (most access_groups) never_heard

-- "an empty register with every reading never heard"
abbrev pub empty : Register
empty = record { clients = replicate most_clients none; readings = all_never_heard }

-- ---- a register with one thing changed

abbrev pub with_client : Register → ℕ → Option Client → Register
with_client r p o = record { clients = set r.clients p o; readings = r.readings }

-- "Setting one reading changes that one place among its group's 21."
abbrev pub with_reading : Register → ℕ → ℕ → Reading → Register
with_reading r i letter x = record { clients = r.clients; readings = set r.readings i (set (readings_at r i) letter x) }

-- "A good load makes every reading never heard."
abbrev pub unheard : Register → Register
unheard r = record { clients = r.clients; readings = all_never_heard }
