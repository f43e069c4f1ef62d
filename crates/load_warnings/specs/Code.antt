-- The warning of a token, as a number.
use Rattle.std.specs.Prelude.{cond, ℕ, eqb}
use Rattle.std.specs.Prelude as Given
use Rattle.std.proofs.Math.Option.{Option, none, some}
use Rattle.spec_file.specs.declared.Warning.{Warning}
use Rattle.spec_file.specs.Warning.{number}

-- 0 for no warning
abbrev pub code_of : Option Warning → ℕ
code_of none = 0
code_of (some w) = number w

-- by the number of its role
abbrev pub code : ℕ → ℕ
code role = cond (eqb role 16) 1 (cond (eqb role 17) 2 0)

-- the same of a warning that may be given
abbrev pub code_given : Given.Option Warning → ℕ
code_given Given.None = 0
code_given (Given.Some w) = number w
