use Rattle.calc_value.specs.laws.Steps.{cost}
use Rattle.calc_value.proofs.Source.+parse.Given as goal

abbrev pub decreases-branches : goal.decreases-branches
decreases-branches l = cost l.self.now.text.now l.at 2

abbrev pub decreases-expression : goal.decreases-expression
decreases-expression l = cost l.self.now.text.now l.at 1

abbrev pub decreases-operand : goal.decreases-operand
decreases-operand l = cost l.self.now.text.now l.at 0

abbrev pub decreases-other : goal.decreases-other
decreases-other l = cost l.self.now.text.now l.at 2

abbrev pub decreases-rest : goal.decreases-rest
decreases-rest l = cost l.self.now.text.now l.at 0
