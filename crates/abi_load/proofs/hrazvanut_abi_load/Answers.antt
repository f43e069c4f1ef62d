use Rattle.abi_load.specs.laws.Answers.{leaves}
use Rattle.abi_load.proofs.hrazvanut_abi_load.Goals as goal

pub returns : goal.returns
returns c = leaves c.load.ensures c.load_number.ensures
