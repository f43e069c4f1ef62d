use Rattle.std.proofs.Common.{length}
use Rattle.load_tokens.specs.Views.{places, roles}
use Rattle.load_warnings.specs.laws.Filled.{Filling}
use Rattle.load_warnings.proofs.warnings.Given as goal

abbrev pub invariant-loop-token : goal.invariant-loop-token
invariant-loop-token l =
    Filling (places l.list) (roles l.list) (length l.list) l.skip l.initial.numbers l.initial.at l.numbers l.at l.k l.token-index
