-- The number of a token's warning, from its role.
use Rattle.std.specs.Prelude.{◌≡◌, refl, Bool, true, false, cond, List, ℕ, eqb, get_or}
use Rattle.std.proofs.Math.Option.{none, some}
use Rattle.std.proofs.Common.{arith}
use Rattle.load_tokens.specs.Arrays.{Arrays, tagged_at}
use Rattle.spec_file.specs.declared.Warning.{Warning}
use Rattle.spec_file.specs.declared.Warning.TheVariants.{UnknownItem, UnknownPredicate}
use Rattle.spec_file.specs.Warning.{number, warning_of}
use Rattle.load_spans.specs.laws.Roles.{same_number}
use Rattle.load_warnings.specs.Code.{code_of, code}

-- a warning has a number
pub number_some : (w : Warning) → number w ≡ 0 → ⊥
number_some UnknownItem h = absurd (omega (arith, h))
number_some UnknownPredicate h = absurd (omega (arith, h))

-- ---- it is the warning's

by_tests : (a b : Bool) → code_of (cond a (some UnknownItem) (cond b (some UnknownPredicate) none)) ≡ cond a 1 (cond b 2 0)
by_tests true b = refl
by_tests false true = refl
by_tests false false = refl

pub code_is : (s : List ℕ) (a : Arrays) (roles : List ℕ) (i : ℕ) → code_of (warning_of (tagged_at s a roles i)) ≡ code (get_or roles i 0)
code_is s a roles i =
    rw (same_number (get_or roles i 0) 16 (omega arith), same_number (get_or roles i 0) 17 (omega arith))
    (by_tests (eqb (get_or roles i 0) 16) (eqb (get_or roles i 0) 17))
