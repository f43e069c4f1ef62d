use Rattle.abi_reading.specs.laws.Answers.{sets}
use Rattle.spec_places.specs.Storage.{lent}
use Rattle.abi_reading.proofs.hrazvanut_abi_set_checked.Goals as goal

pub returns : goal.returns
returns c = let a = c.args in
    sets (lent a.table.now a.places.now a.states.now a.values.now) a.group.now a.letter c.reading-x.ensures c.set_checked-c.ensures c.tell_changed.ensures
