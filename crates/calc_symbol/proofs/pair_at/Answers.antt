use Rattle.std.proofs.Common.{arith}
use Rattle.calc_symbol.specs.laws.Scans.{pair_read, pair_past}
use Rattle.calc_symbol.proofs.pair_at.Goals as goal

pub returns-in_err-b : goal.returns-in_err-b
returns-in_err-b c = rw c.from_residual.ensures (pair_past c.args.s.now c.args.at (let h = c.in_err-b.ensures.lookup.3 in omega arith))

pub returns-in_err-d : goal.returns-in_err-d
returns-in_err-d c = rw c.from_residual-in_err-d.ensures (pair_past c.args.s.now c.args.at c.in_err-d.ensures.lookup.3)

pub returns : goal.returns
returns c = let b = c.in_ok-b.ensures.lookup in
    let d = c.in_ok-d.ensures.lookup in
    pair_read c.args.s.now c.args.at c.pair_of.result d.3.0 (b.4 (omega arith) 0) (d.4 (omega arith) 0) c.pair_of.ensures
