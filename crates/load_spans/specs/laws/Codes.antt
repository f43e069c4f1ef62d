-- A role told by its code.
use Rattle.std.specs.Prelude.{◌≡◌, Bool, true, false, ◌&&◌, ℕ}
use Rattle.std.proofs.Common.{◌∙◌, eq-eqb, ne_eqb}
use Rattle.spec_grammar.specs.Codes.{same_role}
use Rattle.load_tokens.specs.Arrays.{role_of_number}
use Rattle.load_spans.specs.Roles.{RoleCode}
use Rattle.load_spans.specs.laws.Roles.{same_number}

pub role_same : {q : ℕ} (m : ℕ) → RoleCode m → q ≡ m → same_role (role_of_number q) (role_of_number m) ≡ true
role_same {q} m t h = same_number q m t ∙ eq-eqb q m h

pub role_other : {q : ℕ} (m : ℕ) → RoleCode m → (q ≡ m → ⊥) → same_role (role_of_number q) (role_of_number m) ≡ false
role_other {q} m t h = same_number q m t ∙ ne_eqb q m h

-- what is asked of the tokens of one role only
module _ {q : ℕ} (m : ℕ) (t : RoleCode m) (b : Bool) where
  pub asked : q ≡ m → b ≡ same_role (role_of_number q) (role_of_number m) && b
  asked h = rw (role_same m t h)
