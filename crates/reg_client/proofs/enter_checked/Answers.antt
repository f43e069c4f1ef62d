use Rattle.reg_enter.specs.laws.Entered.{entered_by}
use Rattle.spec_places.specs.Storage.{readings_in}
use Rattle.reg_client.proofs.enter_checked.Goals as goal

pub returns : goal.returns
returns c = let a = c.args in entered_by a.places.now a.p c.requires.placed a.table.now (readings_in a.states.now a.values.now) c.requires.fits c.kept_checked-k.ensures.is c.enter_kept.ensures
