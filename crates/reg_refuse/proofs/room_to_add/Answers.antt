use Rattle.std.proofs.Common.{[], ◌≡◌, ap, Err, sym, rules, ◌∙◌}
use Rattle.spec_places.specs.Storage.{lent}
use Rattle.reg_bytes.specs.Placed.{client_lent}
use Rattle.std.specs.Option.{ok_or}
use Rattle.spec_register.specs.declared.Refused.TheVariants.{NoPlace}
use Rattle.reg_refuse.specs.Room.{room_to_add}
use Rattle.reg_refuse.specs.laws.Room.{add_short, add_refused, add_stands}
use Rattle.reg_refuse.proofs.room_to_add.Goals as goal

pub returns-then-not-is_register : goal.returns-then-not-is_register
returns-then-not-is_register c = let a = c.args in add_short (lent [] a.places.now a.states.now a.values.now) (client_lent a.c) (sym c.is_register.ensures ∙ c.if-not-is_register.true)

pub returns-in_err-can_stand : goal.returns-in_err-can_stand
returns-in_err-can_stand c = let a = c.args in let h : Err c.in_err-can_stand.field-0.0 ≡ room_to_add (lent [] a.places.now a.states.now a.values.now) (client_lent a.c) = add_refused (lent [] a.places.now a.states.now a.values.now) (client_lent a.c) (sym c.is_register.ensures ∙ c.if-not-is_register.false) c.can_stand.ensures c.in_err-can_stand.was in search rules

pub returns : goal.returns
returns c = let a = c.args in c.ok_or.ensures.value ∙ ap (λ o. ok_or o NoPlace) c.lowest_free.ensures ∙ add_stands (lent [] a.places.now a.states.now a.values.now) (client_lent a.c) (sym c.is_register.ensures ∙ c.if-not-is_register.false) c.can_stand.ensures c.in_ok-can_stand.was
