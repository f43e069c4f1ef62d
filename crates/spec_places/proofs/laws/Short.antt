-- Lent storage that is too short for a register: no place has a right, and a call is refused with 34 then and only then.
use Rattle.std.specs.Prelude.{◌≡◌, refl, Bool, true, false, cond, not, ◌&&◌, List, ◌↔◌, ◌⊎◌, ℕ, ◌<◌, leb, length}
use Rattle.std.proofs.Common.{sym, inl, inr, arith, leb-false}
use Rattle.std.proofs.lemmas.Bool.{false≢true, lt-leb}
use Rattle.std.proofs.Math.Option.{Option, none, some, map}
use Rattle.spec_lists.specs.Select.{first_if}
use Rattle.spec_rule.specs.Decision.{no_access}
use Rattle.spec_file.specs.Refusal as text
use Rattle.spec_file.proofs.laws.Numbered.{number_small}
use Rattle.spec_table.specs.Check.{is_table}
use Rattle.spec_decision.specs.Groups.{group_named}
use Rattle.spec_load.specs.declared.Loaded.{Loaded}
use Rattle.spec_load.specs.declared.Loaded.TheVariants as loaded
use Rattle.spec_load.specs.Load.{load}
use Rattle.spec_register.specs.declared.Refused.{Refused}
use Rattle.spec_register.specs.declared.Refused.TheVariants.{NotRegister, NotTable, BadLevel, NoInput, LongName, NoPlace, NoClient}
use Rattle.spec_register.specs.declared.Added.TheVariants as added
use Rattle.spec_register.specs.declared.Changed.TheVariants as changed
use Rattle.spec_register.specs.declared.Reloaded.TheVariants as reloaded
use Rattle.spec_register.specs.Register.{Client, Register}
use Rattle.spec_register.specs.Refusal.{number, long_name, bad_level, all_taken, no_client, no_input, add_refusal, change_refusal, remove_refusal, set_refusal}
use Rattle.spec_register.specs.Calls.{Call, add, change, remove, set_reading, load_again, Answer, client_added, rights_changed, table_loaded}
use Rattle.spec_register.specs.Calls.{added_at, changed_or, reloaded_as, refusal_of}
use Rattle.spec_register.proofs.laws.Refused.{added_told, changed_told}
use Rattle.spec_places.specs.Storage.{Lent, places_bytes, all_readings, are_places, right_in, standing_in}
use Rattle.spec_places.specs.Calls.{are_states, are_values, is_register, has_room, free_in, differing_in}
use Rattle.spec_places.specs.Calls.{told_added, places_added, told_changed, places_changed, places_removed, left_set, left_reloaded, told, ShortRegister, TooShort}

pub short_right : (b : List ℕ) (p : ℕ) → length b < places_bytes → right_in b p ≡ no_access
short_right b p h = rw (lt-leb places_bytes (length b) h)

-- ---- the tests of length

short_is : (n m : ℕ) → (leb n m ≡ false) ↔ (m < n)
short_is n m = (leb-false n m, lt-leb n m)

one_false : {A B : Type 0} (a b : Bool) → (a ≡ false) ↔ A → (b ≡ false) ↔ B → (a && b ≡ false) ↔ (A ⊎ B)
one_false true b f g = (λ e. inr (g.0 e), λ y. elim y [ inl x ↦ absurd (false≢true (sym (f.1 x))) | inr x ↦ g.1 x ])
one_false false b f g = (λ e. inl (f.0 refl), λ y. refl)

module _ (s : Lent) where
  places_short : (are_places s.places ≡ false) ↔ (length s.places < places_bytes)
  places_short = short_is places_bytes (length s.places)

  states_short : (are_states s.states ≡ false) ↔ (length s.states < all_readings)
  states_short = short_is all_readings (length s.states)

  register_short : (is_register s ≡ false) ↔ ShortRegister s
  register_short =
      one_false (are_places s.places) (are_states s.states && are_values s.values) places_short
      (one_false (are_states s.states) (are_values s.values) states_short (short_is all_readings (length s.values)))

  room_short : (has_room s ≡ false) ↔ ((length s.places < places_bytes) ⊎ (length s.states < all_readings))
  room_short = one_false (are_places s.places) (are_states s.states) places_short states_short

-- ---- other refusals have other numbers

Other : Option ℕ → Type 0
Other o = o ≡ some (number NotRegister) → ⊥

nothing_other : Other none
unfolding Other
nothing_other e = let z : ◌≡◌ {A = ℕ} 0 1 = cc in omega arith

first_other : (t : Bool) (x : Refused) (o : Option Refused) → (number x ≡ 34 → ⊥) → Other (map number o) → Other (map number (first_if t x o))
unfolding Other
first_other true x o n h e = let z : number x ≡ 34 = cc in n z
first_other false x o n h e = h e

add_other : (r : Register) (c : Client) → Other (map number (add_refusal r c))
add_other r c =
    let taken = first_if (all_taken r) NoPlace none in
    first_other (long_name c) LongName (first_if (bad_level c) BadLevel taken) (λ e. omega arith)
    (first_other (bad_level c) BadLevel taken (λ e. omega arith) (first_other (all_taken r) NoPlace none (λ e. omega arith) nothing_other))

change_other : (r : Register) (p : ℕ) (c : Client) → Other (map number (change_refusal r p c))
change_other r p c =
    let level = first_if (bad_level c) BadLevel none in
    first_other (no_client r p) NoClient (first_if (long_name c) LongName level) (λ e. omega arith)
    (first_other (long_name c) LongName level (λ e. omega arith) (first_other (bad_level c) BadLevel none (λ e. omega arith) nothing_other))

remove_other : (r : Register) (p : ℕ) → Other (map number (remove_refusal r p))
remove_other r p = first_other (no_client r p) NoClient none (λ e. omega arith) nothing_other

set_other : (t n : List ℕ) (letter : ℕ) → Other (map number (set_refusal t n letter))
set_other t n letter =
    let input = no_input t letter (group_named t n) in
    first_other (not (is_table t)) NotTable (first_if input NoInput none) (λ e. omega arith)
    (first_other input NoInput none (λ e. omega arith) nothing_other)

load_other : (a : Loaded) (m : ℕ) → Other (refusal_of (table_loaded (reloaded_as a m)))
unfolding Other
load_other (loaded.Accepted n w) m e = nothing_other e
load_other (loaded.Refused r p) m e = let z : text.number r ≡ 34 = cc in omega (arith, number_small r)

-- ---- 34

-- a call that tells one thing of enough storage, and 34 of any other
told_short :
    {A T : Type 0} (x : Bool) → (x ≡ false) ↔ A → (tell : T → Answer) (done short : T) → refusal_of (tell short) ≡ some 34 → Other (refusal_of (tell done))
    → (refusal_of (tell (cond x done short)) ≡ some 34) ↔ A
unfolding Other
told_short true d tell done short f n = (λ e. absurd (n e), λ a. absurd (false≢true (sym (d.1 a))))
told_short false d tell done short f n = (λ e. d.0 refl, λ a. f)

changed_other : (o : Option Refused) (m : ℕ) → Other (map number o) → Other (refusal_of (rights_changed (changed_or o m)))
changed_other o m h = rw (changed_told o m) h

pub too_short : (s : Lent) (c : Call) → (refusal_of (told s c) ≡ some 34) ↔ TooShort s c
unfolding told_added told_changed
too_short s (add c) =
    let o = add_refusal (standing_in s.places) c in
    let m = differing_in s.places (places_added s c) in
    told_short (is_register s) (register_short s) client_added
    (added_at o (free_in s.places) m) (added.Refused NotRegister) refl
    (rw (added_told o (free_in s.places) m) (add_other (standing_in s.places) c))
too_short s (change p c) =
    let o = change_refusal (standing_in s.places) p c in
    let m = differing_in s.places (places_changed s p c) in
    told_short (is_register s) (register_short s) rights_changed (changed_or o m) (changed.Refused NotRegister) refl
    (changed_other o m (change_other (standing_in s.places) p c))
too_short s (remove p) =
    let o = remove_refusal (standing_in s.places) p in
    let m = differing_in s.places (places_removed s.places p) in
    told_short (are_places s.places) (places_short s) rights_changed (changed_or o m) (changed.Refused NotRegister) refl
    (changed_other o m (remove_other (standing_in s.places) p))
too_short s (set_reading n letter x) =
    let o = set_refusal s.table n letter in
    let m = differing_in s.places (left_set s n letter x).places in
    told_short (is_register s) (register_short s) rights_changed (changed_or o m) (changed.Refused NotRegister) refl
    (changed_other o m (set_other s.table n letter))
too_short s (load_again text) =
    let a = (load s.table text).answer in
    let m = differing_in s.places (left_reloaded s text).places in
    told_short (has_room s) (room_short s) table_loaded (reloaded_as a m) reloaded.NotRegister refl (load_other a m)
