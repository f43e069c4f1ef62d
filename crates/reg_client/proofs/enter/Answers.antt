use Rattle.reg_enter.specs.laws.Entered.{no_table_kept, entered_by}
use Rattle.spec_places.specs.Storage.{readings_in}
use Rattle.reg_bytes.specs.Placed.{client_lent}
use mathlib.Core.Path.{sym, ◌∙◌}
use Rattle.reg_client.proofs.enter.Goals as goal

pub enter_checked-requires : goal.enter_checked-requires
enter_checked-requires c = record { table_value = sym c.is_table.ensures ∙ c.if-is_table.true; placed = c.requires.placed; fits = c.requires.fits }

pub returns : goal.returns
returns c = let a = c.args in let rs = readings_in a.states.now a.values.now in let k = client_lent a.c in entered_by a.places.now a.p c.requires.placed a.table.now rs c.requires.fits (c.nothing_kept.ensures.is ∙ no_table_kept a.table.now rs k (sym c.is_table.ensures ∙ c.if-is_table.false)) c.enter_kept.ensures
