use Rattle.load_quote.specs.laws.Quotes.{goes_on, closes_at, breaks_at, never_at}
use Rattle.spec_token.proofs.laws.Quotes.{start}
use Rattle.std.proofs.Common.{sym, ◌∙◌}
use Rattle.load_quote.proofs.quote_end.Goals as goal

pub loop-i-init : goal.loop-i-init
loop-i-init c = start _ _ c.requires

pub returns-in-Close : goal.returns-in-Close
returns-in-Close c = closes_at c.loop-i.invariant c.loop-i-test.true (sym c.quote_act.ensures ∙ c.in-Close.is)

pub returns-in-Break : goal.returns-in-Break
returns-in-Break c = breaks_at c.loop-i.invariant c.loop-i-test.true (sym c.quote_act.ensures ∙ c.in-Break.is)

pub loop-i-preserved : goal.loop-i-preserved
loop-i-preserved c = goes_on c.loop-i.invariant c.loop-i-test.true (sym c.quote_act.ensures ∙ c.in-On.is)

pub returns : goal.returns
returns c = never_at c.loop-i.invariant c.loop-i-test.false
