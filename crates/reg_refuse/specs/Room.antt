-- Where a call on a client is made, or why it is refused.
use Rattle.std.specs.Prelude.{Result, Ok, Err, cond, List, [], ◌∷◌, ℕ}
use Rattle.std.proofs.Math.Option.{Option, none, some}
use Rattle.spec_register.specs.declared.Refused.{Refused}
use Rattle.spec_register.specs.declared.Refused.TheVariants.{NotRegister, LongName, BadLevel}
use Rattle.spec_register.specs.Register.{Client}
use Rattle.spec_register.specs.Refusal.{test, first_of, long_name, bad_level, add_refusal, change_refusal, remove_refusal}
use Rattle.spec_places.specs.Storage.{Lent, are_places, standing_in}
use Rattle.spec_places.specs.Calls.{is_register, free_in}

abbrev pub Room : Type 0
Room = Result ℕ Refused

abbrev pub room_or : {A : Type 0} → Option Refused → A → Result A Refused
room_or none p = Ok p
room_or (some x) p = Err x

-- why a client can stand nowhere
abbrev pub client_refusal : Client → Option Refused
client_refusal c = first_of (test (long_name c) LongName ∷ test (bad_level c) BadLevel ∷ [])

unfoldable pub room_to_add : Lent → Client → Room
room_to_add s c =
    cond (is_register s) (room_or (add_refusal (standing_in s.places) c) (free_in s.places)) (Err NotRegister)

unfoldable pub room_to_change : Lent → ℕ → Client → Room
room_to_change s p c = cond (is_register s) (room_or (change_refusal (standing_in s.places) p c) p) (Err NotRegister)

abbrev pub room_to_remove : List ℕ → ℕ → Room
room_to_remove b p = cond (are_places b) (room_or (remove_refusal (standing_in b) p) p) (Err NotRegister)
