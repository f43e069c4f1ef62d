use Rattle.ask_kept.specs.Kept.{decision_kept}
use Rattle.ask_checked.specs.Group.{group_rules}
use Rattle.spec_rule.specs.Kept.{kept_verdict}
use Rattle.spec_rule.specs.Verdict.{then, normal, settled}
use Rattle.spec_lists.specs.Runs.{part}
use lib.ListN.{length, drop}
use mathlib.Core.Path.{◌≡◌}
use Rattle.ask_kept.proofs.kept_decision.Given as goal

abbrev pub invariant-loop-i : goal.invariant-loop-i
invariant-loop-i l = (normal l.so_far ≡ l.so_far) × (decision_kept l.fn.table l.fn.group l.fn.kept l.fn.at l.fn.outcomes ≡ settled (then l.so_far (kept_verdict (drop l.i (part (record { first = l.fn.at; count = length (group_rules l.fn.table l.fn.group) }) l.fn.kept)) (drop l.i l.fn.outcomes) (drop l.i (group_rules l.fn.table l.fn.group)))))
