use Rattle.spec_text.specs.Faults.{quotable, quotable_from}
use lib.ListN.{drop}
use mathlib.Core.Path.{◌≡◌}
use Rattle.text_quote.proofs.quotable.Given as goal

abbrev pub invariant-loop-b : goal.invariant-loop-b
invariant-loop-b l = quotable l.s ≡ quotable_from l.escaped (drop l.b-index l.s)
