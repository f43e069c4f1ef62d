-- Bytes that are measured first and then written at the start of what is lent, where they have room.
use Rattle.std.specs.Prelude.{List, [], ◌∷◌, ◌++◌, ◌≡◌, refl, ℕ, ◌+◌, ◌≤◌, ◌<◌, length, drop}
use Rattle.std.proofs.Common.{ap, ◌∙◌, arith}
use Rattle.std.proofs.lemmas.List.Edits.{sets-eq}
use Rattle.byte_write.specs.Put.{Put}
use Rattle.byte_write.specs.laws.Puts.{put_length}

-- measuring writes nothing
pub measured : {t x : List ℕ} {k : ℕ} (b : List ℕ) → Put [] x 0 t k → (x ++ b ≡ b) × (k ≡ length t)
measured {x = []} b p = (refl, omega (arith, p.end))
measured {x = v ∷ x} b p = absurd (omega (arith, put_length p))

-- what was measured has no room
pub too_long : {t x : List ℕ} {k : ℕ} (b : List ℕ) → Put [] x 0 t k → length (x ++ b) < k → length b < length t
too_long b p h = let m = measured b p in omega (arith, ap length m.0, m.1)

-- there is room for t in what is lent, and nothing is changed there yet
pub record HasRoom (t lent now : List ℕ) : Type 0 where
  pub fits : length t ≤ length lent
  pub as_lent : now ≡ lent

-- t was measured
pub by_measure : {t b x l : List ℕ} {k : ℕ} → Put [] x 0 t k → k ≤ length (x ++ b) → l ≡ x ++ b → HasRoom t b l
by_measure {t} {b} {x} {l} p h e =
    let m = measured b p in
    record { fits = omega (arith, ap length m.0, m.1); as_lent = e ∙ m.0 }

-- n is as long as any
pub by_length : {t b l : List ℕ} {n : ℕ} → length t ≤ n → n ≤ length b → l ≡ b → HasRoom t b l
by_length f h e = record { fits = omega arith; as_lent = e }

pub room_length : {t b c l : List ℕ} {r : ℕ} → HasRoom t b l → Put l c 0 t r → length c ≡ length b
room_length w p = put_length p ∙ ap length w.as_lent

-- what is written stands at the start, and the bytes behind it stay
pub room_written : {t b c l : List ℕ} {r : ℕ} → HasRoom t b l → Put l c 0 t r → (c ≡ t ++ drop (length t) b) × (r ≡ length t)
room_written {t} {b} {c} {l} {r} w p =
    let z : 0 + length t ≡ length t = omega arith in
    let put : Put b c 0 t r = rw w.as_lent at p in
    (put.bytes ∙ sets-eq t b 0 (omega (arith, w.fits)) ∙ ap (λ (k : ℕ). t ++ drop k b) z, put.end ∙ z)
