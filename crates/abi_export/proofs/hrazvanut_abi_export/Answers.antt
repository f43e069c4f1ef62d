use Rattle.abi_export.specs.laws.Answers.{leaves}
use Rattle.abi_export.proofs.hrazvanut_abi_export.Goals as goal

pub returns : goal.returns
returns c = leaves c.export.ensures c.exported_number.ensures
