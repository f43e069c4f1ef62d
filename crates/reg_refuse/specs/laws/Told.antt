-- What a call answers and leaves, by where it is made: at a place, or refused.
use Rattle.std.specs.Prelude.{◌≡◌, refl, Ok, Err, Bool, true, false, cond, List, ℕ, ◌<◌}
use Rattle.std.proofs.Common.{sym, ◌∙◌, arith}
use Rattle.std.proofs.Math.Path.{ap}
use Rattle.std.proofs.Math.Option.{Option, none, some}
use Rattle.spec_lists.specs.Select.{first_if}
use Rattle.spec_calc.specs.declared.Reading.{Reading}
use Rattle.spec_register.specs.declared.Refused.{Refused}
use Rattle.spec_register.specs.declared.Refused.TheVariants.{NotRegister, BadLevel, LongName, NoPlace, NoClient}
use Rattle.spec_register.specs.declared.Added.TheVariants as added
use Rattle.spec_register.specs.declared.Changed.TheVariants as changed
use Rattle.spec_register.specs.Register.{Client, most_clients}
use Rattle.spec_register.specs.Refusal.{long_name, bad_level, all_taken, no_client, add_refusal, change_refusal, remove_refusal}
use Rattle.spec_register.specs.Calls.{unless, added_at, changed_or}
use Rattle.spec_places.specs.Storage.{Lent, are_places, standing_in, readings_in}
use Rattle.spec_places.specs.Writing.{entered, freed}
use Rattle.spec_places.specs.Calls.{is_register, free_in, differing_in, places_added, told_added, places_changed, told_changed, places_removed, told_removed}
use Rattle.spec_places.proofs.laws.Behind.{but_table}
use Rattle.spec_places.proofs.laws.Fits.{Fits, not_first, fits_added, fits_changed}
use Rattle.reg_bytes.specs.Placed.{Placed}
use Rattle.reg_bytes.specs.laws.Placed.{placed, has_places}
use Rattle.reg_refuse.specs.laws.Refused.{client_inside, free_inside}
use Rattle.reg_refuse.specs.Room.{Room, room_or, room_to_add, room_to_change, room_to_remove}

-- a call whose slices are long enough is made where no cause refuses it
made : (t : Bool) (o : Option Refused) (q p : ℕ) → cond t (room_or o q) (Err NotRegister) ≡ Ok p → (t ≡ true) × (o ≡ none) × (q ≡ p)
made true none q p e = (refl, refl, cc)
made true (some x) q p e = let z : ◌≡◌ {A = ℕ} 0 1 = cc in absurd (omega arith)
made false o q p e = let z : ◌≡◌ {A = ℕ} 0 1 = cc in absurd (omega arith)

-- and is told so otherwise
refused_added :
    (t : Bool) (o : Option Refused) (q m : ℕ) (x : Refused) → cond t (room_or o q) (Err NotRegister) ≡ Err x
    → added.Refused x ≡ cond t (added_at o q m) (added.Refused NotRegister)
refused_added true none q m x e = let z : ◌≡◌ {A = ℕ} 0 1 = cc in absurd (omega arith)
refused_added true (some y) q m x e = cc
refused_added false o q m x e = cc

refused_changed :
    (t : Bool) (o : Option Refused) (q m : ℕ) (x : Refused) → cond t (room_or o q) (Err NotRegister) ≡ Err x
    → changed.Refused x ≡ cond t (changed_or o m) (changed.Refused NotRegister)
refused_changed true none q m x e = let z : ◌≡◌ {A = ℕ} 0 1 = cc in absurd (omega arith)
refused_changed true (some y) q m x e = cc
refused_changed false o q m x e = cc

refused_leaves :
    (t : Bool) (o : Option Refused) (q : ℕ) (x : Refused) (done b : List ℕ) → cond t (room_or o q) (Err NotRegister) ≡ Err x
    → b ≡ cond t (unless o done b) b
refused_leaves true none q x done b e = let z : ◌≡◌ {A = ℕ} 0 1 = cc in absurd (omega arith)
refused_leaves true (some y) q x done b e = refl
refused_leaves false o q x done b e = refl

-- where it is made, it is told so, and what was to be written is left
done_added :
    {t : Bool} {o : Option Refused} {q p m : ℕ} → t ≡ true → o ≡ none → q ≡ p → added.At p m ≡ cond t (added_at o q m) (added.Refused NotRegister)
done_added e f g = rw (e, f, g)

done_changed : {t : Bool} {o : Option Refused} {m : ℕ} → t ≡ true → o ≡ none → changed.Places m ≡ cond t (changed_or o m) (changed.Refused NotRegister)
done_changed e f = rw (e, f)

done_leaves : {t : Bool} {o : Option Refused} {done : List ℕ} (b : List ℕ) → t ≡ true → o ≡ none → done ≡ cond t (unless o done b) b
done_leaves b e f = rw (e, f)

module _ (s : Lent) (c : Client) where
  abbrev rs : ℕ → List Reading
  rs = readings_in s.states s.values

  add_causes : {r : Room} {p : ℕ} → r ≡ room_to_add (but_table s) c → r ≡ Ok p → (is_register s ≡ true) × (add_refusal (standing_in s.places) c ≡ none) × (free_in s.places ≡ p)
  unfolding room_to_add
  add_causes {p = p} h e = made (is_register s) (add_refusal (standing_in s.places) c) (free_in s.places) p (sym h ∙ e)

  pub add_fits : {r : Room} {p : ℕ} → r ≡ room_to_add (but_table s) c → r ≡ Ok p → Fits c
  add_fits h e = fits_added (standing_in s.places) c (add_causes h e).1

  pub add_placed : {r : Room} {p : ℕ} → r ≡ room_to_add (but_table s) c → r ≡ Ok p → Placed s.places p
  add_placed {p = p} h e =
      let k = add_causes h e in
      let r = standing_in s.places in
      let full = first_if (all_taken r) NoPlace none in
      let short = (not_first (long_name c) LongName (first_if (bad_level c) BadLevel full) k.1).1 in
      let room = (not_first (all_taken r) NoPlace none (not_first (bad_level c) BadLevel full short).1).0 in
      let l : p < most_clients = omega (arith, k.2, free_inside s.places room) in
      placed s.places p (has_places s k.0) l

  pub added_here :
      {r : Room} {p m : ℕ} {e : List ℕ} → r ≡ room_to_add (but_table s) c → r ≡ Ok p → e ≡ entered s.table rs s.places p c → m ≡ differing_in s.places e
      → (added.At p m ≡ told_added s c) × (e ≡ places_added s c)
  unfolding told_added places_added
  added_here {p = p} {m = m} {e = e} h g w v =
      let k = add_causes h g in
      let left : e ≡ places_added s c =
      w ∙ ap (λ (q : ℕ). entered s.table rs s.places q c) (sym k.2) ∙ done_leaves s.places k.0 k.1 in
      (ap (added.At p) (v ∙ ap (differing_in s.places) left) ∙ done_added k.0 k.1 k.2, left)

  pub not_added : {r : Room} {x : Refused} → r ≡ room_to_add (but_table s) c → r ≡ Err x → (added.Refused x ≡ told_added s c) × (s.places ≡ places_added s c)
  unfolding room_to_add told_added places_added
  not_added {x = x} h e =
      let o = add_refusal (standing_in s.places) c in
      let q = free_in s.places in (
        refused_added (is_register s) o q (differing_in s.places (places_added s c)) x (sym h ∙ e),
        refused_leaves (is_register s) o q x (entered s.table rs s.places q c) s.places (sym h ∙ e),
      )

  -- a change
  module _ (p : ℕ) where
    change_causes : {r : Room} {q : ℕ} → r ≡ room_to_change (but_table s) p c → r ≡ Ok q → (is_register s ≡ true) × (change_refusal (standing_in s.places) p c ≡ none) × (p ≡ q)
    unfolding room_to_change
    change_causes {q = q} h e = made (is_register s) (change_refusal (standing_in s.places) p c) p q (sym h ∙ e)

    pub change_fits : {r : Room} {q : ℕ} → r ≡ room_to_change (but_table s) p c → r ≡ Ok q → Fits c
    change_fits h e = fits_changed (standing_in s.places) p c (change_causes h e).1

    pub change_placed : {r : Room} {q : ℕ} → r ≡ room_to_change (but_table s) p c → r ≡ Ok q → Placed s.places q
    change_placed {q = q} h e =
        let k = change_causes h e in
        let r = standing_in s.places in
        let there = (not_first (no_client r p) NoClient (first_if (long_name c) LongName (first_if (bad_level c) BadLevel none)) k.1).0 in
        let l : q < most_clients = omega (arith, k.2, client_inside s.places p there) in
        placed s.places q (has_places s k.0) l

    pub changed_here :
        {r : Room} {q m : ℕ} {e : List ℕ} → r ≡ room_to_change (but_table s) p c → r ≡ Ok q → e ≡ entered s.table rs s.places q c → m ≡ differing_in s.places e
        → (changed.Places m ≡ told_changed s p c) × (e ≡ places_changed s p c)
    unfolding told_changed places_changed
    changed_here {m = m} {e = e} h g w v =
        let k = change_causes h g in
        let left : e ≡ places_changed s p c =
        w ∙ ap (λ (i : ℕ). entered s.table rs s.places i c) (sym k.2) ∙ done_leaves s.places k.0 k.1 in
        (ap changed.Places (v ∙ ap (differing_in s.places) left) ∙ done_changed k.0 k.1, left)

    pub not_changed : {r : Room} {x : Refused} → r ≡ room_to_change (but_table s) p c → r ≡ Err x → (changed.Refused x ≡ told_changed s p c) × (s.places ≡ places_changed s p c)
    unfolding room_to_change told_changed places_changed
    not_changed {x = x} h e =
        let o = change_refusal (standing_in s.places) p c in (
          refused_changed (is_register s) o p (differing_in s.places (places_changed s p c)) x (sym h ∙ e),
          refused_leaves (is_register s) o p x (entered s.table rs s.places p c) s.places (sym h ∙ e),
        )

-- a removal
module _ (b : List ℕ) (p : ℕ) where
  remove_causes : {r : Room} {q : ℕ} → r ≡ room_to_remove b p → r ≡ Ok q → (are_places b ≡ true) × (remove_refusal (standing_in b) p ≡ none) × (p ≡ q)
  remove_causes {q = q} h e = made (are_places b) (remove_refusal (standing_in b) p) p q (sym h ∙ e)

  pub remove_placed : {r : Room} {q : ℕ} → r ≡ room_to_remove b p → r ≡ Ok q → Placed b q
  remove_placed {q = q} h e =
      let k = remove_causes h e in
      let l : q < most_clients = omega (arith, k.2, client_inside b p (not_first (no_client (standing_in b) p) NoClient none k.1).0) in
      placed b q k.0 l

  pub removed_here :
      {r : Room} {q m : ℕ} {e : List ℕ} → r ≡ room_to_remove b p → r ≡ Ok q → e ≡ freed b q → m ≡ differing_in b e
      → (changed.Places m ≡ told_removed b p) × (e ≡ places_removed b p)
  removed_here {m = m} {e = e} h g w v =
      let k = remove_causes h g in
      let left : e ≡ places_removed b p = w ∙ ap (freed b) (sym k.2) ∙ done_leaves b k.0 k.1 in
      (ap changed.Places (v ∙ ap (differing_in b) left) ∙ done_changed k.0 k.1, left)

  pub not_removed : {r : Room} {x : Refused} → r ≡ room_to_remove b p → r ≡ Err x → (changed.Refused x ≡ told_removed b p) × (b ≡ places_removed b p)
  not_removed {x = x} h e =
      let o = remove_refusal (standing_in b) p in (
        refused_changed (are_places b) o p (differing_in b (places_removed b p)) x (sym h ∙ e),
        refused_leaves (are_places b) o p x (freed b p) b (sym h ∙ e),
      )
