use Rattle.load_depth.specs.laws.Braces.{Counted}
use Rattle.load_depth.proofs.too_deep.Given as goal

abbrev pub invariant-loop-token : goal.invariant-loop-token
invariant-loop-token l = Counted l.tokens l.token-index l.count
