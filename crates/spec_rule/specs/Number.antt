-- A decision as a number, as it stands in a register's place and goes to callers in C: the access in bits 0 and 1, the trap in bit 2, the letter above them.
use Rattle.std.specs.Prelude.{Bool, true, false, cond, ℕ, zero, suc, ◌+◌, ◌*◌, ◌/◌, ◌%◌, leb}
use Rattle.spec_rule.specs.declared.Access.{Access}
use Rattle.spec_rule.specs.declared.Access.TheVariants as access
use Rattle.spec_rule.specs.declared.Stop.{Stop}
use Rattle.spec_rule.specs.declared.Stop.TheVariants.{Nothing, Letter}
use Rattle.spec_rule.specs.declared.Decision.{Decision}
use Rattle.spec_rule.specs.Rule.{rank}
use Rattle.spec_rule.specs.Decision.{with_letter}
use Rattle.spec_rule.specs.Kept.{bit}

-- none is 0, A is 1, U is 21; a calculation has no others
abbrev pub letter_number : Stop → ℕ
letter_number Nothing = 0
letter_number (Letter i) = cond (leb i 20) (suc i) 0

abbrev pub decision_number : Decision → ℕ
decision_number d = rank d.access + 4 * bit d.trap + 8 * letter_number d.letter

-- ---- and back, of any number

abbrev pub access_from : ℕ → Access
access_from zero = access.None
access_from (suc zero) = access.Read
access_from (suc (suc zero)) = access.Write
access_from (suc (suc (suc n))) = access.None

abbrev pub trap_from : ℕ → Bool
trap_from zero = false
trap_from (suc n) = true

abbrev pub letter_from : ℕ → Stop
letter_from zero = Nothing
letter_from (suc i) = cond (leb i 20) (Letter i) Nothing

abbrev pub decision_from : ℕ → Decision
decision_from n = with_letter (access_from (n % 4)) (trap_from (n / 4 % 2)) (letter_from (n / 8))
