use Rattle.std.proofs.Common.{rules, ◌∙◌}
use Rattle.prog_reading.specs.laws.Numbers.{goes_ill, ends_there, ends_before}
use Rattle.prog_reading.proofs.number.Goals as goal

pub returns-in_err-value : goal.returns-in_err-value
returns-in_err-value c = c.from_residual.ensures ∙ goes_ill c.args.s.now (search rules) c.in_err-value.ensures

pub returns-then-end-s : goal.returns-then-end-s
returns-then-end-s c = ends_there c.args.s.now (search rules) c.in_ok-value.ensures c.if-end-s.true

pub returns-else-end-s : goal.returns-else-end-s
returns-else-end-s c = ends_before c.args.s.now (search rules) c.in_ok-value.ensures c.if-end-s.false
