use Rattle.load_elements.specs.laws.Tokens.{then, stops}
use Rattle.load_elements.proofs.Parser.list.Goals as goal

pub returns-in_err-element : goal.returns-in_err-element
returns-in_err-element c = stops _ c.in_err-element.ensures c.from_residual.ensures.1

pub returns : goal.returns
returns c = then c.in_ok-element.ensures c.list_rest.ensures
