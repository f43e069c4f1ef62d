-- The lowest free place of a list of clients: every lower one is taken, and it is free.
use Rattle.std.specs.Prelude.{◌≡◌, refl, List, [], ◌∷◌, ℕ, zero, suc, ◌≤◌, ◌<◌, length, get_or}
use Rattle.std.proofs.Math.Option.{Option, none, some}
use Rattle.std.proofs.Common.{arith}
use Rattle.spec_register.specs.Register.{Client}
use Rattle.spec_register.specs.Refusal.{lowest_free}

pub lower_is_taken : (l : List (Option Client)) (p : ℕ) → p < lowest_free l → (c : Client) × (get_or l p none ≡ some c)
lower_is_taken [] p h = absurd (omega arith)
lower_is_taken (none ∷ l) p h = absurd (omega arith)
lower_is_taken (some c ∷ l) zero h = (c, refl)
lower_is_taken (some c ∷ l) (suc p) h = lower_is_taken l p (omega arith)

pub lowest_within : (l : List (Option Client)) → lowest_free l ≤ length l
lowest_within [] = omega arith
lowest_within (none ∷ l) = omega arith
lowest_within (some c ∷ l) = omega (arith, lowest_within l)

-- past the end too
pub lowest_is_free : (l : List (Option Client)) → get_or l (lowest_free l) none ≡ none
lowest_is_free [] = refl
lowest_is_free (none ∷ l) = refl
lowest_is_free (some c ∷ l) = lowest_is_free l

pub none_some : {A : Type 0} {B : Type 0} {o : Option A} {a : A} → o ≡ none → o ≡ some a → B
none_some e f = let z : ◌≡◌ {A = ℕ} 0 1 = cc in absurd (omega arith)
