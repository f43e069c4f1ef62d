use Rattle.std.proofs.Common.{arith, rules, sym, length-take-le}
use Rattle.prog_check.specs.laws.Checked.{refused_prints, warnings_few, warnings_print, prints}
use Rattle.prog_check.proofs.check.Goals as goal

pub slice_bounds-numbers-end : goal.slice_bounds-numbers-end
slice_bounds-numbers-end c = let f = warnings_few _ _ _ c.list_warnings.ensures c.in-Warnings.is in omega arith

pub slice_bounds-places-end : goal.slice_bounds-places-end
slice_bounds-places-end c = let f = warnings_few _ _ _ c.list_warnings.ensures c.in-Warnings.is in omega arith

pub slice_bounds-put_warnings-end : goal.slice_bounds-put_warnings-end
slice_bounds-put_warnings-end c =
    let f = warnings_few _ _ _ c.list_warnings.ensures c.in-Warnings.is in
    sym (length-take-le c.in-Warnings.count c.list_warnings.new.numbers (omega arith))

pub slice_bounds-put_warnings-end-in-Warnings : goal.slice_bounds-put_warnings-end-in-Warnings
slice_bounds-put_warnings-end-in-Warnings c =
    let f = warnings_few _ _ _ c.list_warnings.ensures c.in-Warnings.is in
    sym (length-take-le c.in-Warnings.count c.list_warnings.new.at (omega arith))

pub returns-in-Refused : goal.returns-in-Refused
returns-in-Refused c = prints (refused_prints _ _ _ c.list_warnings.ensures c.in-Refused.is) (omega arith) c.refusal_line.ensures

pub returns-in-Warnings : goal.returns-in-Warnings
returns-in-Warnings c =
    let f = warnings_few _ _ _ c.list_warnings.ensures c.in-Warnings.is in
    let l = length-take-le c.in-Warnings.count c.list_warnings.new.numbers (omega arith) in
    prints (warnings_print _ _ _ c.list_warnings.ensures c.in-Warnings.is (search rules) (search rules)) (omega arith) c.put_warnings.ensures
