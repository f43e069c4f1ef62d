use Rattle.load_scan.specs.laws.Steps.{quote_found, quote_stops}
use Rattle.load_scan.proofs.quote_token.Goals as goal

pub returns-in_err-end : goal.returns-in_err-end
returns-in_err-end c = quote_stops c.in_err-end.field-0.0 c.from_residual.result c.requires c.in_err-end.ensures c.from_residual.ensures.1

pub returns : goal.returns
returns c = quote_found c.requires c.in_ok-end.ensures
