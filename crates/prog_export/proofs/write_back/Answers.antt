use mathlib.Core.Path.{refl}
use native.Mathlib.Omega.{arith}
use Rattle.prog_text.specs.Text.{digits_in, decimal_digits}
use Rattle.prog_export.specs.laws.Printed.{refused_prints, text_prints, line_prints}
use Rattle.prog_export.proofs.write_back.Goals as goal

pub returns-in-Refused : goal.returns-in-Refused
returns-in-Refused c = refused_prints _ _ _ c.load.ensures c.in-Refused.is c.refusal_line.ensures

pub returns-in-Written : goal.returns-in-Written
returns-in-Written c = text_prints _ _ _ c.load.ensures c.in-Accepted.is c.export.ensures c.in-Written.is

pub returns-in-NotTable : goal.returns-in-NotTable
unfolding decimal_digits digits_in
returns-in-NotTable c = line_prints _ _ _ c.load.ensures c.in-Accepted.is c.export.ensures c.in-NotTable.is refl refl (omega arith) c.put_line.ensures

pub returns-in-Unwritable : goal.returns-in-Unwritable
unfolding decimal_digits digits_in
returns-in-Unwritable c = line_prints _ _ _ c.load.ensures c.in-Accepted.is c.export.ensures c.in-Unwritable.is refl refl (omega arith) c.put_line-in-Unwritable.ensures

pub returns-in-NoRoom : goal.returns-in-NoRoom
unfolding decimal_digits digits_in
returns-in-NoRoom c = line_prints _ _ _ c.load.ensures c.in-Accepted.is c.export.ensures c.in-NoRoom.is refl refl (omega arith) c.put_line-in-NoRoom.ensures
