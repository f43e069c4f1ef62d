use Rattle.std.proofs.Common.{arith}
use Rattle.load_depth.specs.laws.Braces.{counted_none, counted_more, found, not_found}
use Rattle.load_depth.proofs.too_deep.Goals as goal

pub loop-token-init : goal.loop-token-init
loop-token-init c = counted_none _

pub returns-then-count-gt-MOST_BRACES : goal.returns-then-count-gt-MOST_BRACES
returns-then-count-gt-MOST_BRACES c = found c.loop-token.invariant (omega arith) c.opened-count.ensures c.if-count-gt-MOST_BRACES.true c.place.ensures

pub loop-token-preserved : goal.loop-token-preserved
loop-token-preserved c = counted_more c.loop-token.invariant (omega arith) c.opened-count.ensures c.if-count-gt-MOST_BRACES.false

pub returns : goal.returns
returns c = not_found c.loop-token.invariant c.loop-token-test.false
