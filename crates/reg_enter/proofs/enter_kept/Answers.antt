use Rattle.reg_enter.specs.laws.Entered.{enters}
use Rattle.reg_kept.specs.Kept.{kept_bytes}
use Rattle.reg_bytes.specs.Placed.{client_lent}
use Rattle.reg_enter.proofs.enter_kept.Goals as goal

pub returns : goal.returns
returns c = let a = c.args in enters a.places.now a.p c.requires.placed (client_lent a.c) (kept_bytes a.k) c.right-before.ensures c.put_client.ensures c.put_kept.ensures c.changed_bit.ensures
