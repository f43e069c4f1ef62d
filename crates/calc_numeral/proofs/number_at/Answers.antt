use Rattle.std.proofs.Common.{refl, arith}
use Rattle.calc_numeral.specs.laws.Stand.{stands, differs}
use Rattle.calc_numeral.specs.laws.Numerals.{number_many, number_point, number_whole}
use Rattle.calc_numeral.proofs.number_at.Goals as goal

pub returns-in_err-d : goal.returns-in_err-d
returns-in_err-d c = rw c.from_residual.ensures (number_many c.args.s.now c.args.at c.in_err-d.ensures)

pub returns-then-stands_at : goal.returns-then-stands_at
returns-then-stands_at c = number_point c.args.s.now c.args.at c.in_ok-d.ensures refl (stands c.args.s.now c.in_ok-d.d.end 46 c.stands_at.ensures c.if-stands_at.true) c.fraction_at.result c.fraction_at.ensures

pub returns : goal.returns
returns c = number_whole c.args.s.now c.args.at c.in_ok-d.ensures c.requires.1 refl (differs c.args.s.now c.in_ok-d.d.end 46 c.stands_at.ensures (omega arith) c.if-stands_at.false) c.decimal_of.ensures
