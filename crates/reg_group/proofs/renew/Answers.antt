use Rattle.reg_renew.specs.laws.Renew.{outcomes_room, outcomes_begin}
use Rattle.spec_places.specs.Storage.{readings_in}
use Rattle.reg_group.proofs.renew.Goals as goal

pub renew_by-requires : goal.renew_by-requires
renew_by-requires c = let a = c.args in record { placed = c.requires.placed; stored = (c.requires.stored, outcomes_room a.table.now a.group (readings_in a.states.now a.values.now a.group) c.outcomes_of-outcomes.ensures) }

pub returns : goal.returns
returns c = let a = c.args in let rs = readings_in a.states.now a.values.now a.group in c.renew_by.ensures rs (outcomes_begin a.table.now a.group rs c.outcomes_of-outcomes.ensures c.requires.stored.table)
