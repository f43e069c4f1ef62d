use borrow.Enum.Refused.{opened}
use Rattle.std.proofs.Common.{arith, subst}
use Rattle.calc_symbol.specs.Scan.{ClassOk}
use Rattle.calc_letters.specs.laws.Lowest.{is_good, is_bad, is_other}
use Rattle.calc_letters.proofs.bad_letter.Goals as goal

pub bounds-goods-from : goal.bounds-goods-from
bounds-goods-from c = let h = subst ClassOk c.in-Letter.is c.class_of.ensures.1 in omega (arith, c.from.ensures)

pub returns-then-goods-from : goal.returns-then-goods-from
returns-then-goods-from c = is_good c.args.goods.now c.args.b c.class_of.result c.class_of.ensures.0 c.in-Letter.is (rw c.from.ensures at c.if-goods-from.true)

pub returns-else-goods-from : goal.returns-else-goods-from
returns-else-goods-from c = is_bad c.args.goods.now c.args.b c.class_of.result c.class_of.ensures.0 c.in-Letter.is (rw c.from.ensures at c.if-goods-from.false)

pub returns-in_default : goal.returns-in_default
returns-in_default c = is_other c.args.goods.now c.args.b c.class_of.result c.class_of.ensures.0 (opened c.in_default.in_default-own.keys2)
