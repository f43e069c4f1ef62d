-- How a register stands in three lent slices: places, states and values. Any bytes are some register; zeros are the empty one.
use Rattle.std.specs.Prelude.{Bool, cond, ◌&&◌, List, [], ◌∷◌, ◌++◌, map, ℕ, suc, ◌+◌, ◌*◌, min, leb, Float, length, get_or, replicate}
use Rattle.std.proofs.Math.Option.{Option, none, some}
use Rattle.spec_lists.specs.Runs.{part}
use Rattle.spec_calc.specs.declared.Reading.{Reading}
use Rattle.spec_calc.specs.States.{readings}
use Rattle.spec_rule.specs.declared.Decision.{Decision}
use Rattle.spec_rule.specs.Decision.{no_access}
use Rattle.spec_rule.specs.Number.{decision_from}
use Rattle.spec_rule.specs.Kept.{says_stands}
use Rattle.spec_file.specs.Limit.{most, access_groups, longest_name}
use Rattle.spec_register.specs.Register.{Client, Register, most_clients, letters}
use Rattle.spec_register.specs.Right.{from, places}

-- the lent bytes of a table, and those of a register
pub record Lent : Type 0 where
  pub table : List ℕ
  pub places : List ℕ
  pub states : List ℕ
  pub values : List Float

abbrev pub lent : List ℕ → List ℕ → List ℕ → List Float → Lent
lent t p s v = record { table = t; places = p; states = s; values = v }

-- ---- a place's record

abbrev pub place_bytes : ℕ
place_bytes = 448

abbrev pub places_bytes : ℕ
places_bytes = most_clients * place_bytes

-- readings of all access groups
abbrev pub all_readings : ℕ
all_readings = most access_groups * letters

-- where a place begins: a byte that is 0 if it is free, the level, the lengths of group, user and host, then these names
abbrev pub at_place : ℕ → ℕ
at_place p = p * place_bytes

abbrev pub client_bytes : Client → List ℕ
client_bytes c =
    1 ∷ c.level ∷ length c.group ∷ length c.user ∷ length c.host ∷ (c.group ++ (c.user ++ c.host))

-- where stands what a place keeps: the number of the answering group and 1, or 0; its right as a number; and of each rule of that group whether it stands
abbrev pub kept_at : ℕ → ℕ
kept_at p = at_place p + 185

-- no group answers
abbrev pub nothing_kept : List ℕ
nothing_kept = 0 ∷ 0 ∷ []

-- ---- its client

-- no length is taken for more than a name may have
abbrev pub length_at : List ℕ → ℕ → ℕ
length_at b at = min (get_or b at 0) longest_name

abbrev pub names_at : List ℕ → ℕ → ℕ → ℕ → ℕ → Client
names_at b at g u h =
    record {
      group = part (record { first = at + 5; count = g }) b;
      level = get_or b (at + 1) 0;
      user = part (record { first = at + 5 + g; count = u }) b;
      host = part (record { first = at + 5 + g + u; count = h }) b;
    }

abbrev pub client_from : List ℕ → ℕ → Client
client_from b at = names_at b at (length_at b (at + 2)) (length_at b (at + 3)) (length_at b (at + 4))

abbrev pub client_in : List ℕ → ℕ → Option Client
client_in b p = cond (says_stands (get_or b (at_place p) 0)) (some (client_from b (at_place p))) none

abbrev pub clients_in : List ℕ → List (Option Client)
clients_in b = map (client_in b) places

-- the clients alone
abbrev pub standing_in : List ℕ → Register
standing_in b = record { clients = clients_in b; readings = [] }

-- ---- the readings

abbrev pub readings_in : List ℕ → List Float → ℕ → List Reading
readings_in states values i = readings states values (i * letters)

abbrev pub register_in : Lent → Register
register_in s =
    record { clients = clients_in s.places; readings = map (readings_in s.states s.values) (from 0 (most access_groups)) }

-- "zeroed": the empty register, over a table's bytes
abbrev pub zeroed : List ℕ → ℕ → ℕ → List Float → Lent
zeroed t n m v = record { table = t; places = replicate n 0; states = replicate m 0; values = v }

-- ---- its right

-- bytes too short for a register have no right
abbrev pub are_places : List ℕ → Bool
are_places b = leb places_bytes (length b)

abbrev pub right_in : List ℕ → ℕ → Decision
right_in b p = cond (are_places b && leb (suc p) most_clients) (decision_from (get_or b (kept_at p + 1) 0)) no_access
