use Rattle.abi_load.specs.laws.Answers.{lists}
use Rattle.abi_load.proofs.hrazvanut_abi_list_warnings.Goals as goal

pub returns : goal.returns
returns c = lists c.list_warnings.ensures c.listed_number.ensures
