-- The calls of a register on lent storage: what each answers, and what it leaves. That this is what spec_register says, of a register that began
-- as zeros, is proved (laws), so nobody has to believe it.
use Rattle.std.specs.Prelude.{◌≡◌, Bool, cond, ◌&&◌, List, [], ◌∷◌, ◌⊎◌, ℕ, ◌+◌, ◌*◌, ◌<◌, leb, Float, length, set, replicate}
use Rattle.std.proofs.Math.Option.{Option, none, some}
use Rattle.std.proofs.lemmas.List.Edits.{sets}
use Rattle.spec_calc.specs.declared.Reading.{Reading}
use Rattle.spec_calc.specs.Value.{heard}
use Rattle.spec_decision.specs.Groups.{Numbered, group_named}
use Rattle.spec_load.specs.declared.Loaded.{Loaded}
use Rattle.spec_load.specs.declared.Loaded.TheVariants as loaded
use Rattle.spec_load.specs.Load.{load}
use Rattle.spec_register.specs.declared.Refused.TheVariants.{NotRegister}
use Rattle.spec_register.specs.declared.Added.{Added}
use Rattle.spec_register.specs.declared.Added.TheVariants as added
use Rattle.spec_register.specs.declared.Changed.{Changed}
use Rattle.spec_register.specs.declared.Changed.TheVariants as changed
use Rattle.spec_register.specs.declared.Reloaded.{Reloaded}
use Rattle.spec_register.specs.declared.Reloaded.TheVariants as reloaded
use Rattle.spec_register.specs.Register.{Client, most_clients, letters}
use Rattle.spec_register.specs.Right.{differing}
use Rattle.spec_register.specs.Refusal.{add_refusal, change_refusal, remove_refusal, set_refusal, lowest_free}
use Rattle.spec_register.specs.Calls.{Gateway, Call, add, change, remove, set_reading, load_again, unless, Answer, client_added, rights_changed, table_loaded}
use Rattle.spec_register.specs.Calls.{added_at, changed_or, reloaded_as, right_at, answer}
use Rattle.spec_places.specs.Storage.{Lent, places_bytes, all_readings, are_places, right_in, clients_in, standing_in, readings_in, register_in}
use Rattle.spec_places.specs.Writing.{entered, freed, each, renewed, settled, state_of}

-- the slices are long enough
abbrev pub are_states : List ℕ → Bool
are_states b = leb all_readings (length b)

abbrev pub are_values : List Float → Bool
are_values v = leb all_readings (length v)

abbrev pub is_register : Lent → Bool
is_register s = are_places s.places && (are_states s.states && are_values s.values)

-- the places whose right differs in two registers' bytes
abbrev pub differing_in : List ℕ → List ℕ → ℕ
differing_in b c = differing (right_in b) (right_in c)

abbrev pub free_in : List ℕ → ℕ
free_in b = lowest_free (clients_in b)

-- ---- a client is added, changed, removed

unfoldable pub places_added : Lent → Client → List ℕ
places_added s c =
    cond (is_register s)
    (unless (add_refusal (standing_in s.places) c)
    (entered s.table (readings_in s.states s.values) s.places (free_in s.places) c) s.places)
    s.places

unfoldable pub told_added : Lent → Client → Added
told_added s c =
    cond (is_register s)
    (added_at (add_refusal (standing_in s.places) c) (free_in s.places) (differing_in s.places (places_added s c)))
    (added.Refused NotRegister)

unfoldable pub places_changed : Lent → ℕ → Client → List ℕ
places_changed s p c =
    cond (is_register s)
    (unless (change_refusal (standing_in s.places) p c)
    (entered s.table (readings_in s.states s.values) s.places p c) s.places)
    s.places

unfoldable pub told_changed : Lent → ℕ → Client → Changed
told_changed s p c =
    cond (is_register s)
    (changed_or (change_refusal (standing_in s.places) p c) (differing_in s.places (places_changed s p c)))
    (changed.Refused NotRegister)

abbrev pub places_removed : List ℕ → ℕ → List ℕ
places_removed b p = cond (are_places b) (unless (remove_refusal (standing_in b) p) (freed b p) b) b

abbrev pub told_removed : List ℕ → ℕ → Changed
told_removed b p =
    cond (are_places b) (changed_or (remove_refusal (standing_in b) p) (differing_in b (places_removed b p))) (changed.Refused NotRegister)

-- ---- a reading is set

-- the storage with the reading, and each right of the group anew
abbrev pub with_reading_in : Lent → Option Numbered → ℕ → Reading → Lent
with_reading_in s none letter x = s
with_reading_in s (some g) letter x =
    let states = set s.states (g.number * letters + letter) (state_of x) in
    let values = set s.values (g.number * letters + letter) (heard x) in
    record {
      table = s.table;
      places = each (renewed s.table g.number (readings_in states values g.number)) most_clients s.places;
      states = states;
      values = values;
    }

abbrev pub left_set : Lent → List ℕ → ℕ → Reading → Lent
left_set s n letter x =
    cond (is_register s) (unless (set_refusal s.table n letter) (with_reading_in s (group_named s.table n) letter x) s) s

abbrev pub told_set : Lent → List ℕ → ℕ → Reading → Changed
told_set s n letter x =
    cond (is_register s)
    (changed_or (set_refusal s.table n letter) (differing_in s.places (left_set s n letter x).places))
    (changed.Refused NotRegister)

-- ---- a load

abbrev pub has_room : Lent → Bool
has_room s = are_places s.places && are_states s.states

-- an accepted load makes every reading never heard, and each right anew
abbrev pub reloaded_by : Lent → List ℕ → Loaded → Lent
reloaded_by s t (loaded.Refused x p) = s
reloaded_by s t (loaded.Accepted n w) =
    record {
      table = t;
      places = each (settled t) most_clients s.places;
      states = sets s.states 0 (replicate all_readings 0);
      values = s.values;
    }

abbrev pub left_reloaded : Lent → List ℕ → Lent
left_reloaded s text =
    cond (has_room s) (reloaded_by s (load s.table text).bytes (load s.table text).answer) s

abbrev pub told_reloaded : Lent → List ℕ → Reloaded
told_reloaded s text =
    cond (has_room s)
    (reloaded_as (load s.table text).answer (differing_in s.places (left_reloaded s text).places))
    reloaded.NotRegister

-- ---- any call

abbrev pub with_places : Lent → List ℕ → Lent
with_places s b = record { table = s.table; places = b; states = s.states; values = s.values }

abbrev pub left : Lent → Call → Lent
left s (add c) = with_places s (places_added s c)
left s (change p c) = with_places s (places_changed s p c)
left s (remove p) = with_places s (places_removed s.places p)
left s (set_reading n letter x) = left_set s n letter x
left s (load_again text) = left_reloaded s text

abbrev pub left_by_calls : Lent → List Call → Lent
left_by_calls s [] = s
left_by_calls s (c ∷ cs) = left_by_calls (left s c) cs

abbrev pub told : Lent → Call → Answer
told s (add c) = client_added (told_added s c)
told s (change p c) = rights_changed (told_changed s p c)
told s (remove p) = rights_changed (told_removed s.places p)
told s (set_reading n letter x) = rights_changed (told_set s n letter x)
told s (load_again text) = table_loaded (told_reloaded s text)

-- ---- what the storage says

-- lent storage is a gateway: its table, its register, the right of each place, and what any call tells next
pub record Agrees (s : Lent) (g : Gateway) : Type 0 where
  pub table : s.table ≡ g.table
  pub register : register_in s ≡ g.register
  pub rights : (p : ℕ) → right_in s.places p ≡ right_at g p
  pub answers : (c : Call) → told s c ≡ answer g c

-- ---- storage that is too short

-- one of a register's three slices
abbrev pub ShortRegister : Lent → Type 0
ShortRegister s = (length s.places < places_bytes) ⊎ ((length s.states < all_readings) ⊎ (length s.values < all_readings))

-- 34, by what each call goes to: a remove to the places alone, a load to places and states
abbrev pub TooShort : Lent → Call → Type 0
TooShort s (add c) = ShortRegister s
TooShort s (change p c) = ShortRegister s
TooShort s (remove p) = length s.places < places_bytes
TooShort s (set_reading n letter x) = ShortRegister s
TooShort s (load_again text) = (length s.places < places_bytes) ⊎ (length s.states < all_readings)
