use Rattle.byte_write.specs.Put.{cased}
use lib.ListN.{length-map}
use Prim.Native.Nat.{◌*◌}
use mathlib.Core.Bool.{false}
use Rattle.reg_write.specs.laws.Written.{stored, client_written}
use Rattle.reg_bytes.specs.Placed.{client_lent}
use Rattle.reg_write.specs.Head.{head_bytes}
use native.Mathlib.Omega.{arith}
use Rattle.reg_write.proofs.put_client.Goals as goal

pub put_text-host-requires : goal.put_text-host-requires
put_text-host-requires c = omega (arith, c.put_text-user.ensures.end, length-map c.args.c.group.now (cased false), length-map c.args.c.user.now (cased false), c.requires.fits.group, c.requires.fits.user, c.requires.placed.inside)

pub put_text-requires : goal.put_text-requires
put_text-requires c = omega (arith, c.put_text-user.ensures.end, c.put_text-host.ensures.end, length-map c.args.c.group.now (cased false), length-map c.args.c.user.now (cased false), c.requires.fits.group, c.requires.fits.user, c.requires.fits.host, c.requires.placed.inside)

pub returns : goal.returns
returns c = let a = c.args in client_written (client_lent a.c) (stored a.places.now (a.p * 448) (head_bytes (client_lent a.c)) c.put_head.ensures) c.put_text-user.ensures c.put_text-host.ensures c.put_text.ensures
