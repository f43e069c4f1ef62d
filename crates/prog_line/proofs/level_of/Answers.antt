use Rattle.std.proofs.Common.{sym, ◌∙◌, arith}
use Rattle.prog_line.specs.laws.Parts.{wrong_width, no_digit, a_digit}
use Rattle.prog_line.proofs.level_of.Goals as goal

pub returns-then-part_length-ne1 : goal.returns-then-part_length-ne1
returns-then-part_length-ne1 c = let v = c.part_length.ensures.value in wrong_width c.args.s.now (λ e. omega arith)

pub returns-in_err-digit : goal.returns-in_err-digit
returns-in_err-digit c =
    rw c.from_residual.ensures (no_digit c.args.s.now (sym c.part_length.ensures.value ∙ c.if-part_length-ne1.false) (sym c.in_err-digit.ensures))

pub returns : goal.returns
returns c = a_digit c.args.s.now (sym c.part_length.ensures.value ∙ c.if-part_length-ne1.false) (sym c.in_ok-digit.ensures)
