-- Readings cleared, as the code does it.
use Rattle.std.specs.Prelude.{◌≡◌, true, List, ◌++◌, ℕ, ◌+◌, ◌≤◌, length, drop, replicate}
use Rattle.std.proofs.Common.{sym, ap, ap₂, ◌∙◌, arith, leb-true}
use Rattle.std.proofs.lemmas.List.{length-replicate}
use Rattle.std.proofs.lemmas.List.Edits.{sets, sets-eq}
use Rattle.spec_lists.proofs.laws.Both.{both}
use Rattle.spec_places.specs.Storage.{Lent, places_bytes, all_readings, are_places}
use Rattle.spec_places.specs.Calls.{are_states, has_room}
use Rattle.reg_bytes.specs.Placed.{Placed}

-- a front that was filled with zeros
pub cleared : (m : ℕ) (b d : List ℕ) {n : ℕ} → m ≤ length b → n ≡ m → d ≡ replicate n 0 → d ++ drop m b ≡ sets b 0 (replicate m 0)
cleared m b d h e f =
    let z : m ≡ 0 + length (replicate m 0) = omega (arith, length-replicate {A = ℕ} m 0) in
    ap₂ (λ (x : List ℕ) (k : ℕ). x ++ drop k b) (f ∙ ap (λ (k : ℕ). replicate k 0) e) z ∙ sym (sets-eq (replicate m 0) b 0 (omega (arith, length-replicate {A = ℕ} m 0, h)))

-- ---- slices that are long enough

module _ (s : Lent) (e : has_room s ≡ true) where
  pub room_places : Placed s.places 0
  room_places =
      record { inside = omega arith; room = leb-true places_bytes (length s.places) (both (are_places s.places) (are_states s.states) e).0 }

  pub room_states : all_readings ≤ length s.states
  room_states = leb-true all_readings (length s.states) (both (are_places s.places) (are_states s.states) e).1
