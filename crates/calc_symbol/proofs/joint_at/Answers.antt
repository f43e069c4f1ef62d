use Rattle.std.specs.Prelude.{None}
use Rattle.calc_symbol.specs.laws.Lookaheads.{no_sign, joins_from}
use Rattle.calc_symbol.specs.laws.Scans.{stands}
use Rattle.calc_symbol.proofs.joint_at.Goals as goal

pub returns-in_err-x : goal.returns-in_err-x
returns-in_err-x c = let a = c.args in
    let p = c.skip_blanks-p.result in
    let z = c.skip_blanks-p.ensures in
    rw c.from_residual.ensures (joins_from a.s.now a.at z a.l None (no_sign a.s.now p a.l (stands a.s.now p z.bare) c.in_err-x.ensures))

pub returns : goal.returns
returns c = let a = c.args in
    joins_from a.s.now a.at c.skip_blanks-p.ensures a.l c.joint_sign.result (c.joint_sign.ensures a.s.now c.skip_blanks-p.result c.in_ok-x.ensures)
