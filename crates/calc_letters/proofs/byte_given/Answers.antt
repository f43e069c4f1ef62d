use borrow.Enum.Refused.{opened}
use Rattle.std.proofs.Common.{arith, subst}
use Rattle.calc_symbol.specs.Scan.{ClassOk}
use Rattle.calc_letters.specs.laws.Given.{letter_given, no_letter_given}
use Rattle.calc_letters.proofs.byte_given.Goals as goal

pub bounds-given-from : goal.bounds-given-from
bounds-given-from c = let h = subst ClassOk c.in-Letter.is c.class_of.ensures.1 in omega (arith, c.from.ensures)

pub returns-in-Letter : goal.returns-in-Letter
returns-in-Letter c = letter_given c.args.given.now c.args.b c.class_of.result c.class_of.ensures.0 c.in-Letter.is (rw c.from.ensures)

pub returns-in_default : goal.returns-in_default
returns-in_default c = no_letter_given c.args.given.now c.args.b c.class_of.result c.class_of.ensures.0 (opened c.in_default.in_default-own.keys2)
