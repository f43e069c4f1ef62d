use Rattle.abi_load.specs.laws.Answers.{reloads}
use Rattle.abi_load.proofs.hrazvanut_abi_reload.Goals as goal

pub returns : goal.returns
returns c = λ values. reloads (c.reload-l.ensures values) c.tell_reloaded.ensures
