-- Where a call is made, by its causes of refusal as code finds them.
use Rattle.std.specs.Prelude.{◌≡◌, refl, Result, Ok, Err, Some, None, ok_or, Bool, true, false, cond, List, ℕ, eqb}
use Rattle.std.specs.Result.{result_and}
use Rattle.std.proofs.Common.{sym, ap, ◌∙◌}
use Rattle.std.proofs.Math.Option.{Option, none, some}
use Rattle.spec_lists.specs.Select.{first_if}
use Rattle.spec_register.specs.declared.Refused.{Refused}
use Rattle.spec_register.specs.declared.Refused.TheVariants.{NotRegister, BadLevel, LongName, NoPlace, NoClient}
use Rattle.spec_register.specs.Register.{Client, most_clients}
use Rattle.spec_register.specs.Refusal.{long_name, bad_level, all_taken, no_client}
use Rattle.spec_places.specs.Storage.{Lent, standing_in}
use Rattle.spec_places.specs.Calls.{is_register, free_in}
use Rattle.reg_bytes.specs.Placed.{free_place}
use Rattle.reg_refuse.specs.Room.{Room, room_or, client_refusal, room_to_add, room_to_change}
use Rattle.reg_refuse.specs.laws.Refused.{full}

-- a client that can stand nowhere is refused so, whatever cause comes then; of one that can stand, that cause decides
module _ (l v : Bool) (o : Option Refused) (p : ℕ) where
  abbrev alone : Result (Unit {0}) Refused
  alone = room_or (first_if l LongName (first_if v BadLevel none)) tt

  abbrev both : Room
  both = room_or (first_if l LongName (first_if v BadLevel o)) p

client_first : (l v : Bool) (o : Option Refused) (p : ℕ) {x : Refused} → alone l v o p ≡ Err x → Err x ≡ both l v o p
client_first true v o p e = cc
client_first false true o p e = cc
client_first false false o p {x} e = let z : ◌≡◌ {A = Bool} true false = cc in cc

client_stands : (l v : Bool) (o : Option Refused) (p : ℕ) {u : Unit {0}} → alone l v o p ≡ Ok u → room_or o p ≡ both l v o p
client_stands true v o p e = let z : ◌≡◌ {A = Bool} true false = cc in cc
client_stands false true o p e = let z : ◌≡◌ {A = Bool} true false = cc in cc
client_stands false false o p e = refl

free_or : (b : List ℕ) → ok_or (free_place b) NoPlace ≡ room_or (first_if (all_taken (standing_in b)) NoPlace none) (free_in b)
free_or b = go (eqb (free_in b) most_clients) ∙ sym (ap (λ (t : Bool). room_or (first_if t NoPlace none) (free_in b)) (full b {p = free_in b} refl))
  where
    go : (t : Bool) → ok_or (cond t None (Some (free_in b))) NoPlace ≡ room_or (first_if t NoPlace none) (free_in b)
    go true = refl
    go false = refl

module _ (s : Lent) (c : Client) where
  pub add_short : is_register s ≡ false → Err NotRegister ≡ room_to_add s c
  unfolding room_to_add
  add_short e = rw e

  module _ (e : is_register s ≡ true) {r : Result (Unit {0}) Refused} (k : r ≡ room_or (client_refusal c) tt) where
    pub add_refused : {x : Refused} → r ≡ Err x → Err x ≡ room_to_add s c
    unfolding room_to_add
    add_refused f = rw e (client_first (long_name c) (bad_level c) (first_if (all_taken (standing_in s.places)) NoPlace none) (free_in s.places) (sym k ∙ f))

    pub add_stands : {u : Unit {0}} → r ≡ Ok u → ok_or (free_place s.places) NoPlace ≡ room_to_add s c
    unfolding room_to_add
    add_stands f =
        rw e
        (free_or s.places
        ∙ client_stands (long_name c) (bad_level c) (first_if (all_taken (standing_in s.places)) NoPlace none) (free_in s.places) (sym k ∙ f))

-- no client, long name, bad level
module _ (s : Lent) (p : ℕ) (c : Client) where
  pub change_short : is_register s ≡ false → Err NotRegister ≡ room_to_change s p c
  unfolding room_to_change
  change_short e = rw e

  module _ (e : is_register s ≡ true) where
    pub change_absent : no_client (standing_in s.places) p ≡ true → Err NoClient ≡ room_to_change s p c
    unfolding room_to_change
    change_absent f = rw (e, f)

    pub change_stands :
        no_client (standing_in s.places) p ≡ false → {r : Result (Unit {0}) Refused} → r ≡ room_or (client_refusal c) tt
        → result_and r (Ok p) ≡ room_to_change s p c
    unfolding room_to_change
    change_stands f k = rw (e, f) (ap (λ (r : Result (Unit {0}) Refused). result_and r (Ok p)) k ∙ go (client_refusal c))
      where
        go : (o : Option Refused) → result_and (room_or o (tt {0})) (Ok p) ≡ room_or o p
        go none = refl
        go (some x) = refl
