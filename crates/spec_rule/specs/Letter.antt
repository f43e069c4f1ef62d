-- What a letter tells a fitter, the worth of printing it. 02, ticket 5: "A fitter who is refused wants the channel to look at."
use Rattle.std.specs.Prelude.{List, ℕ, ◌≤◌}
use Rattle.std.proofs.Math.Option.{some}
use Rattle.spec_calc.specs.declared.Reading.{Reading}
use Rattle.spec_rule.specs.declared.Access.{Access}
use Rattle.spec_rule.specs.declared.Decision.{Decision}
use Rattle.spec_rule.specs.Question.{Question}
use Rattle.spec_rule.specs.Rule.{Rule, rank}
use Rattle.spec_rule.specs.Privilege.{FirstSuch, Answers, MakesTrue, StoppedBy, StoppedAbove}

-- the question q got the decision d with the letter i, and would get the access `access_at` with other readings
module _ {G : Type 0} (name : G → List ℕ) (rules : G → List Rule) (gs : List G) where
  pub record Tells (q : Question) (d : Decision) (i : ℕ) (access_at : List Reading → Access) : Type 0 where
    -- the rule that the letter is of
    pub group : G
    pub searched : Answers name q.group gs (some group)
    pub rule : Rule
    pub first : FirstSuch (StoppedAbove q d.access) (rules group) rule
    pub stopped : StoppedBy q rule i
    -- with readings that make its calculation true, among them those, if any, that differ from the question's at the letter i alone, the access would be at
    -- least its permission
    pub mended : (better : List Reading) → MakesTrue better rule → rank rule.permission ≤ rank (access_at better)
