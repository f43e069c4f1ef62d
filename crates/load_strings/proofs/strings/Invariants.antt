use Rattle.spec_grammar.specs.Reader.{often, next_string}
use Rattle.std.proofs.Common.{[], ◌∷◌}
use Rattle.load_elements.specs.Reads.{left, Begun}
use Rattle.load_strings.proofs.strings.Given as goal

abbrev pub invariant-loop-role : goal.invariant-loop-role
invariant-loop-role l = Begun 0 (often (next_string l.role) ∷ []) (often (next_string l.role) ∷ []) l.initial.p l.p

abbrev pub decreases-loop-role : goal.decreases-loop-role
decreases-loop-role l = left l.p
