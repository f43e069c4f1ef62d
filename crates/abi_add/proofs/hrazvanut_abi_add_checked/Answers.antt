use Rattle.api_register.specs.laws.Tells.{added_so}
use Rattle.abi_add.proofs.hrazvanut_abi_add_checked.Goals as goal

pub returns : goal.returns
returns c = record { told = added_so c.add_checked-a.ensures.value c.tell_added.ensures; left = c.add_checked-a.ensures.places_after }
