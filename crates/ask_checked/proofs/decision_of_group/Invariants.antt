use Rattle.ask_checked.specs.laws.Decide.{Tried}
use Rattle.ask_checked.proofs.decision_of_group.Given as goal

abbrev pub invariant-loop-rule : goal.invariant-loop-rule
invariant-loop-rule l = Tried l.fn.table l.fn.group l.fn.client l.fn.inputs l.so_far l.rule
