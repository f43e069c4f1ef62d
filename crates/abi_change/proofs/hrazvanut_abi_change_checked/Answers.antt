use Rattle.api_register.specs.laws.Tells.{changed_so}
use Rattle.abi_change.proofs.hrazvanut_abi_change_checked.Goals as goal

pub returns : goal.returns
returns c = record { told = changed_so c.change_checked-c.ensures.value c.tell_changed.ensures; left = c.change_checked-c.ensures.places_after }
