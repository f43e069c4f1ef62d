use mathlib.Core.Path.{◌≡◌}
use Rattle.spec_table.specs.View.{view}
use Rattle.text_marks.specs.Names.{run}
use Rattle.text_marks.specs.laws.Left.{Left}
use Rattle.text_inputs.specs.Inputs.{inputs_text}
use Rattle.text_inputs.proofs.put_inputs.Given as goal

abbrev pub invariant-loop-i : goal.invariant-loop-i
invariant-loop-i l = Left l.initial.out l.out (inputs_text (view l.table) (run l.fn.records)) (inputs_text (view l.table) (run l.i-iterator)) × (l.i-iterator.end ≡ l.fn.records.end)
