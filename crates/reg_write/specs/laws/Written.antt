-- What stores one behind the other make of a place.
use Rattle.std.specs.Prelude.{◌≡◌, refl, false, List, [], ◌∷◌, ◌++◌, map, ℕ, suc, ◌+◌, length, set}
use Rattle.std.proofs.Common.{ap, ◌∙◌, append_assoc, arith}
use Rattle.std.proofs.lemmas.List.Edits.{sets}
use Rattle.spec_register.specs.Register.{Client}
use Rattle.spec_places.specs.Storage.{client_bytes, at_place}
use Rattle.spec_places.specs.Writing.{freed}
use Rattle.byte_write.specs.Put.{Put, cased}
use Rattle.byte_write.specs.laws.Puts.{put_put}

-- a text that is written as it is
as_it_is : (t : List ℕ) → map (cased false) t ≡ t
as_it_is [] = refl
as_it_is (b ∷ t) = ap (λ (l : List ℕ). b ∷ l) (as_it_is t)

module _ (b : List ℕ) (at : ℕ) where
  pub two_set : (v w : ℕ) → set (set b at v) (at + 1) w ≡ sets b at (v ∷ w ∷ [])
  two_set v w = let e : at + 1 ≡ suc at = omega arith in rw e

  pub five_set :
      (u v w x y : ℕ) → set (set (set (set (set b at u) (at + 1) v) (at + 2) w) (at + 3) x) (at + 4) y ≡ sets b at (u ∷ v ∷ w ∷ x ∷ y ∷ [])
  five_set u v w x y =
      let e₁ : at + 1 ≡ suc at = omega arith in
      let e₂ : at + 2 ≡ suc (suc at) = omega arith in
      let e₃ : at + 3 ≡ suc (suc (suc at)) = omega arith in
      let e₄ : at + 4 ≡ suc (suc (suc (suc at))) = omega arith in
      rw (e₁, e₂, e₃, e₄)

pub made_free : (b : List ℕ) (p : ℕ) → set (set (set b (at_place p) 0) (at_place p + 185) 0) (at_place p + 186) 0 ≡ freed b p
made_free b p = let e : at_place p + 186 ≡ suc (at_place p + 185) = omega arith in rw e

pub stored : (b : List ℕ) (at : ℕ) (ws : List ℕ) {c : List ℕ} → c ≡ sets b at ws → Put b c at ws (at + length ws)
stored b at ws e = record { bytes = e; end = refl }

-- a text behind what was written
pub then_text : {b c d : List ℕ} {at u r : ℕ} {ws : List ℕ} (t : List ℕ) → Put b c at ws u → Put c d u (map (cased false) t) r → Put b d at (ws ++ t) r
then_text t p q = put_put p (rw as_it_is at q)

pub client_written :
    (k : Client) {b c d e f : List ℕ} {at u h r : ℕ}
    → Put b c at (1 ∷ k.level ∷ length k.group ∷ length k.user ∷ length k.host ∷ []) (at + 5)
    → Put c d (at + 5) (map (cased false) k.group) u → Put d e u (map (cased false) k.user) h → Put e f h (map (cased false) k.host) r
    → f ≡ sets b at (client_bytes k)
client_written k {b} {at = at} s g v w =
    (then_text k.host (then_text k.user (then_text k.group s g) v) w).bytes
    ∙ ap
    (λ (l : List ℕ). sets b at (1 ∷ k.level ∷ length k.group ∷ length k.user ∷ length k.host ∷ l))
    (append_assoc k.group k.user k.host)
