use Rattle.api_register.specs.laws.Tells.{changed_so}
use Rattle.abi_place.proofs.hrazvanut_abi_remove.Goals as goal

pub returns : goal.returns
returns c = record { told = changed_so c.remove-removed.ensures.value c.tell_changed.ensures; left = c.remove-removed.ensures.places_after }
