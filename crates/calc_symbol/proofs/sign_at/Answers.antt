use Rattle.std.proofs.Common.{arith}
use Rattle.calc_symbol.specs.laws.Scans.{sign_two, sign_past, sign_one, sign_none}
use Rattle.calc_symbol.proofs.sign_at.Goals as goal

pub returns-in-Some : goal.returns-in-Some
returns-in-Some c = sign_two c.args.s.now c.args.at c.in-Some.o c.in-Some.ensures

pub returns-in_err-b : goal.returns-in_err-b
returns-in_err-b c = rw c.from_residual.ensures (sign_past c.args.s.now c.args.at c.in_default.ensures c.in_err-b.ensures.lookup.3)

pub returns-in_err-x : goal.returns-in_err-x
returns-in_err-x c = let b = c.in_ok-b.ensures.lookup in
    rw c.from_residual-in_err-x.ensures (sign_none c.args.s.now c.args.at c.in_default.ensures b.3.0 (b.4 (omega arith) 0) c.in_err-x.ensures)

pub returns : goal.returns
returns c = let b = c.in_ok-b.ensures.lookup in
    sign_one c.args.s.now c.args.at c.in_default.ensures b.3.0 (b.4 (omega arith) 0) c.in_ok-x.x c.in_ok-x.ensures
