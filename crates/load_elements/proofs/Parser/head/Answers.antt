use Rattle.load_elements.specs.laws.Tokens.{then, stops}
use Rattle.load_elements.proofs.Parser.head.Goals as goal

pub returns-in_err-expect : goal.returns-in_err-expect
returns-in_err-expect c = stops _ c.in_err-expect.ensures c.from_residual.ensures.1

pub returns : goal.returns
returns c = then c.in_ok-expect.ensures c.arguments.ensures
