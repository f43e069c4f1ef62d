use Rattle.api_register.specs.laws.Tells.{added_so}
use Rattle.abi_add.proofs.hrazvanut_abi_add.Goals as goal

pub returns : goal.returns
returns c = record { told = added_so c.add-a.ensures.value c.tell_added.ensures; left = c.add-a.ensures.places_after }
