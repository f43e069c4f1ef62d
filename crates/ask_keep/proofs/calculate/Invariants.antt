use Rattle.std.proofs.Common.{◌≡◌, List, drop}
use Rattle.std.proofs.lemmas.List.Edits.{sets}
use Rattle.spec_calc.specs.declared.Reading.{Reading}
use Rattle.spec_rule.specs.Kept.{outcome_bytes}
use Rattle.ask_rule.specs.Rules.{InputsAre}
use Rattle.ask_checked.specs.Group.{group_rules}
use Rattle.ask_keep.proofs.calculate.Given as goal

abbrev pub invariant-loop-i : goal.invariant-loop-i
invariant-loop-i l = (rs : List Reading) → InputsAre l.fn.inputs rs → sets l.initial.outcomes 0 (outcome_bytes rs (group_rules l.fn.table l.fn.group)) ≡ sets l.outcomes l.i (drop l.i (outcome_bytes rs (group_rules l.fn.table l.fn.group)))
