-- The right of a place: what a question would answer now. 02, tickets 1 and 5.
use Rattle.std.specs.Prelude.{Bool, true, false, ◌||◌, not, List, [], ◌∷◌, map, ℕ, zero, suc, ◌+◌, ◌*◌, eqb}
use Rattle.std.proofs.Math.Option.{Option, none, some}
use Rattle.spec_calc.specs.declared.Reading.{Reading}
use Rattle.spec_rule.specs.declared.Stop.{Stop}
use Rattle.spec_rule.specs.declared.Stop.TheVariants.{Nothing, Letter}
use Rattle.spec_rule.specs.declared.Decision.{Decision}
use Rattle.spec_rule.specs.Question.{Question, question_of}
use Rattle.spec_rule.specs.Rule.{rank}
use Rattle.spec_rule.specs.Decision.{no_access}
use Rattle.spec_rule.specs.Kept.{bit}
use Rattle.spec_decision.specs.Groups.{answering_number}
use Rattle.spec_decision.specs.Decision.{decision_in, decide}
use Rattle.spec_register.specs.Register.{Client, Register, client_at, never_heard, readings_at, most_clients}

-- "the answering group's readings"
abbrev pub readings_of : Register → Option ℕ → List Reading
readings_of r none = never_heard
readings_of r (some i) = readings_at r i

-- "a question with the answering group's readings"; 02, ticket 2: the register's clients have no roles
abbrev pub question_now : List ℕ → Register → Client → Question
question_now b r c = question_of c.group c.user c.host c.level (readings_of r (answering_number b c.group))

abbrev pub right_of : List ℕ → Register → Option Client → Decision
right_of b r none = no_access
-- a refused question, as when the bytes are no table, has NONE without trap and without letter
right_of b r (some c) = decision_in (decide b (question_now b r c))

-- the right of a place, over a table's bytes
abbrev pub right : List ℕ → Register → ℕ → Decision
right b r p = right_of b r (client_at r p)

-- ---- which rights differ

-- the number whose bits, the lowest first, these are
abbrev pub bits : List Bool → ℕ
bits [] = 0
bits (b ∷ bs) = bit b + 2 * bits bs

-- the numbers from n on, m of them
abbrev pub from : ℕ → ℕ → List ℕ
from n zero = []
from n (suc m) = n ∷ from (suc n) m

abbrev pub places : List ℕ
places = from 0 most_clients

abbrev pub same_letter : Stop → Stop → Bool
same_letter Nothing Nothing = true
same_letter Nothing (Letter j) = false
same_letter (Letter i) Nothing = false
same_letter (Letter i) (Letter j) = eqb i j

-- two rights differ in access, in trap or in letter
abbrev pub differ : Decision → Decision → Bool
differ d e =
    not (eqb (rank d.access) (rank e.access))
    || (not (eqb (bit d.trap) (bit e.trap)) || not (same_letter d.letter e.letter))

-- the places whose right differs, a bit for each
abbrev pub differing : (ℕ → Decision) → (ℕ → Decision) → ℕ
differing before after = bits (map (λ p. differ (before p) (after p)) places)
