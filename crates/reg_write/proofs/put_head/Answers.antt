use Rattle.reg_write.specs.laws.Written.{five_set}
use lib.ListN.{length, length-set}
use native.Mathlib.Omega.{arith}
use Rattle.reg_write.proofs.put_head.Goals as goal

pub bounds-places-at-2 : goal.bounds-places-at-2
bounds-places-at-2 c = simp length-set (omega arith)

pub bounds-places-at-3 : goal.bounds-places-at-3
bounds-places-at-3 c = simp length-set (omega arith)

pub bounds-places-at-4 : goal.bounds-places-at-4
bounds-places-at-4 c = simp length-set (omega arith)

pub bounds-places-at-5 : goal.bounds-places-at-5
bounds-places-at-5 c = simp length-set (omega arith)

pub returns : goal.returns
returns c = let a = c.args in five_set a.places.now a.at 1 a.c.level (length a.c.group.now) (length a.c.user.now) (length a.c.host.now)
