use Rattle.load_elements.specs.laws.Tokens.{then, stops}
use Rattle.load_parse.proofs.unknown_item.Goals as goal

pub returns-in_err-expect : goal.returns-in_err-expect
returns-in_err-expect c = stops _ c.in_err-expect.ensures c.from_residual.ensures.1

pub returns-in_err-head : goal.returns-in_err-head
returns-in_err-head c = then c.in_ok-expect.ensures (stops _ c.in_err-head.ensures c.from_residual-in_err-head.ensures.1)

pub returns : goal.returns
returns c = then c.in_ok-expect.ensures (then c.in_ok-head.ensures c.top_block.ensures)
