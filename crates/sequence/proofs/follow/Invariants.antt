use Rattle.api_script.specs.laws.Script.{Followed}
use Rattle.api_script.specs.Script.{script_of}
use Rattle.api_script.specs.Replies.{lent_of}
use lib.ListN.{length}
use mathlib.Core.Path.{◌≡◌}
use Rattle.sequence.proofs.follow.Given as goal

abbrev pub invariant-loop-i : goal.invariant-loop-i
invariant-loop-i l = (length l.lent ≡ length l.initial.lent)
    × ((length l.numbers ≡ length l.initial.numbers)
    × ((length l.places ≡ length l.initial.places)
    × ((length l.text ≡ length l.initial.text)
    × Followed (script_of l.script l.pool l.levels l.states l.values (length l.initial.text)) l.i-end (lent_of l.initial.lent l.initial.numbers l.initial.places l.initial.text) (lent_of l.lent l.numbers l.places l.text) l.i)))
