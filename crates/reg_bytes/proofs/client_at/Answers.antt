use Rattle.reg_bytes.specs.laws.Names.{cut_client}
use Rattle.spec_places.specs.Storage.{at_place}
use Rattle.reg_bytes.proofs.client_at.Goals as goal

pub returns : goal.returns
returns c = cut_client c.args.places.now (at_place c.args.p) c.from.ensures c.length_at.ensures c.length_at-2.ensures c.length_at-3.ensures
