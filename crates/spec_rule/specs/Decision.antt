-- What the rules of a group give a question together: access, trap and letter in one. 01, "The question"; 02, ticket 5.
use Rattle.std.specs.Prelude.{Bool, false, cond, List, eqb}
use Rattle.spec_rule.specs.declared.Access.{Access}
use Rattle.spec_rule.specs.declared.Access.TheVariants as access
use Rattle.spec_rule.specs.declared.Stop.{Stop}
use Rattle.spec_rule.specs.declared.Stop.TheVariants.{Nothing}
use Rattle.spec_rule.specs.declared.Decision.{Decision}
use Rattle.spec_rule.specs.Question.{Question}
use Rattle.spec_rule.specs.Rule.{Rule, rank, access_by, trap_by, letter_by}

abbrev pub with_letter : Access → Bool → Stop → Decision
with_letter a t s = record { access = a; trap = t; letter = s }

-- one that no reading stopped
abbrev pub with_trap : Access → Bool → Decision
with_trap a t = with_letter a t Nothing

-- 01: "NONE, no trap"; 02: "or that there is none (as when refused)"
abbrev pub no_access : Decision
no_access = with_trap access.None false

-- what a permission and a trap give: the trap counts only with WRITE
abbrev pub grant : Access → Bool → Decision
grant a t = with_trap a (cond (eqb (rank a) (rank access.Write)) t false)

-- what a rule gives that passes
abbrev pub granted : Rule → Decision
granted r = grant r.permission r.trap

-- what rules give together
abbrev pub decision_by : Question → List Rule → Decision
decision_by q rs = with_letter (access_by q rs) (trap_by q rs) (letter_by q (access_by q rs) rs)
