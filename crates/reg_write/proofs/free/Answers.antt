use Rattle.reg_write.specs.laws.Written.{made_free}
use lib.ListN.{length-set}
use native.Mathlib.Omega.{arith}
use Rattle.reg_write.proofs.free.Goals as goal

pub bounds-places-at-2 : goal.bounds-places-at-2
bounds-places-at-2 c = simp length-set (omega arith)

pub bounds-places-at-3 : goal.bounds-places-at-3
bounds-places-at-3 c = simp length-set (omega arith)

pub returns : goal.returns
returns c = made_free c.args.places.now c.args.p
