use Rattle.spec_token.proofs.laws.Quotes.{Inside}
use Rattle.load_quote.proofs.quote_end.Given as goal

abbrev pub invariant-loop-i : goal.invariant-loop-i
invariant-loop-i l = Inside l.s l.from l.i l.escaped
