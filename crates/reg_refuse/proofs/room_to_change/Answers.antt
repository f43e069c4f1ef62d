use Rattle.std.proofs.Common.{[], sym, ◌∙◌}
use Rattle.spec_places.specs.Storage.{lent}
use Rattle.reg_bytes.specs.Placed.{client_lent}
use Rattle.reg_refuse.specs.laws.Room.{change_short, change_absent, change_stands}
use Rattle.reg_refuse.proofs.room_to_change.Goals as goal

pub returns-then-not-is_register : goal.returns-then-not-is_register
returns-then-not-is_register c = let a = c.args in change_short (lent [] a.places.now a.states.now a.values.now) a.place (client_lent a.c) (sym c.is_register.ensures ∙ c.if-not-is_register.true)

pub returns-then-has_no_client : goal.returns-then-has_no_client
returns-then-has_no_client c = let a = c.args in change_absent (lent [] a.places.now a.states.now a.values.now) a.place (client_lent a.c) (sym c.is_register.ensures ∙ c.if-not-is_register.false) (sym c.has_no_client.ensures ∙ c.if-has_no_client.true)

pub returns : goal.returns
returns c = let a = c.args in c.and.ensures ∙ change_stands (lent [] a.places.now a.states.now a.values.now) a.place (client_lent a.c) (sym c.is_register.ensures ∙ c.if-not-is_register.false) (sym c.has_no_client.ensures ∙ c.if-has_no_client.false) c.can_stand.ensures
