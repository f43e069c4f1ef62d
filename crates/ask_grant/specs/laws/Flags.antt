-- Laws of a rule's flags.
use Rattle.std.specs.Prelude.{◌≡◌, refl, ℕ, zero, suc}
use Rattle.spec_rule.specs.declared.Access.TheVariants as access
use Rattle.spec_table.specs.Policy.{permission}

pub permission_high : (n : ℕ) → (n ≡ 0 → ⊥) → (n ≡ 1 → ⊥) → permission n ≡ access.Write
permission_high zero h g = absurd (h refl)
permission_high (suc zero) h g = absurd (g refl)
permission_high (suc (suc n)) h g = refl
