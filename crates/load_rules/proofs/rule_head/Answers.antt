use Rattle.load_elements.specs.laws.Tokens.{then, stops}
use Rattle.load_rules.proofs.rule_head.Goals as goal

pub returns-in_err-expect : goal.returns-in_err-expect
returns-in_err-expect c = stops _ c.in_err-expect.ensures c.from_residual.ensures.1

pub returns-in_err-expect-2 : goal.returns-in_err-expect-2
returns-in_err-expect-2 c = then c.in_ok-expect.ensures (stops _ c.in_err-expect-2.ensures c.from_residual-in_err-expect-2.ensures.1)

pub returns-in_err-expect-3 : goal.returns-in_err-expect-3
returns-in_err-expect-3 c = then c.in_ok-expect.ensures (then c.in_ok-expect-2.ensures (stops _ c.in_err-expect-3.ensures c.from_residual-in_err-expect-3.ensures.1))

pub returns : goal.returns
returns c = then c.in_ok-expect.ensures (then c.in_ok-expect-2.ensures (then c.in_ok-expect-3.ensures c.permission.ensures))
