-- What a grant rests on. 02, ticket 3: "An infinite or not-a-number value of any evaluated part makes the whole calculation false".
use Rattle.std.specs.Prelude.{◌≡◌, List, ℕ}
use Rattle.std.proofs.Math.Option.{some}
use Rattle.spec_calc.specs.declared.Reading.{Reading}
use Rattle.spec_calc.specs.Expression.{Tree, Parses}
use Rattle.spec_calc.specs.Value.{FiniteParts}
use Rattle.spec_rule.specs.declared.Access.{Access}
use Rattle.spec_rule.specs.Question.{Question}
use Rattle.spec_rule.specs.Rule.{Rule}
use Rattle.spec_rule.specs.Privilege.{Gives}

-- every value that is evaluated of the calculation s is finite
abbrev pub FiniteValues : List Reading → List ℕ → Type 0
FiniteValues rs s = (t : Tree) → Parses s t → FiniteParts rs t

-- of the rule's calculation, if it has one
abbrev pub OnFiniteValues : List Reading → Rule → Type 0
OnFiniteValues rs r = (s : List ℕ) → r.calculation ≡ some s → FiniteValues rs s

-- the rule r gives the access a, and every value that was evaluated of its calculation is finite
abbrev pub GivesOnFiniteValues : Question → Access → Rule → Type 0
GivesOnFiniteValues q a r = Gives q a r × OnFiniteValues q.readings r
