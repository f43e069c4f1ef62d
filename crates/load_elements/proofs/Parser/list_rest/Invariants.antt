use Rattle.load_elements.specs.Reads.{Begun}
use Rattle.spec_grammar.specs.Reader.{more_until}
use Rattle.load_elements.specs.Reads.{left}
use Rattle.load_elements.proofs.Parser.list_rest.Given as goal

abbrev pub invariant-loop-self : goal.invariant-loop-self
invariant-loop-self l = Begun 0 (more_until l.close) (more_until l.close) l.initial.self l.self

abbrev pub decreases-loop-self : goal.decreases-loop-self
decreases-loop-self l = left l.self
