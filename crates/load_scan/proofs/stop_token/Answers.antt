use Rattle.load_scan.specs.laws.Steps.{stop_found}
use Rattle.load_scan.proofs.stop_token.Goals as goal

pub returns : goal.returns
returns c = stop_found c.requires c.stop_kind-kind.ensures
