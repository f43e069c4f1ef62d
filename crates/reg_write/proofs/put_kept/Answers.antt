use mathlib.Core.List.{[], ◌∷◌}
use mathlib.Core.Path.{sym}
use Rattle.reg_write.specs.laws.Written.{two_set, stored, then_text}
use Prim.Native.Nat.{◌+◌, ◌*◌}
use lib.Seq.{length-take-le}
use lib.ListN.{length-set, take}
use native.Mathlib.Omega.{arith}
use Rattle.reg_write.proofs.put_kept.Goals as goal

pub bounds-places-at-2 : goal.bounds-places-at-2
bounds-places-at-2 c = simp length-set (omega arith)

pub slice_bounds-put_text-end : goal.slice_bounds-put_text-end
slice_bounds-put_text-end c = sym (length-take-le c.args.count c.args.flags.now c.requires.count_in_bounds.0)

pub put_text-requires : goal.put_text-requires
put_text-requires c = omega (arith, length-take-le c.args.count c.args.flags.now c.requires.count_in_bounds.0)

pub returns : goal.returns
returns c = let a = c.args in (then_text (take a.count a.flags.now) (stored a.places.now (a.p * 448 + 185) (a.number ∷ a.right ∷ []) (two_set a.places.now (a.p * 448 + 185) a.number a.right)) c.put_text.ensures).bytes
