use Rattle.std.proofs.Common.{ap, sym, ◌∙◌}
use Rattle.std.specs.Prelude.{List, ℕ}
use Rattle.spec_rule.specs.Question.{question_of}
use Rattle.prog_line.specs.Line.{question}
use Rattle.prog_question.specs.Asked.{asked}
use Rattle.prog_question.specs.laws.Asked.{too_long, no_group, no_user, no_host, no_level, no_readings, all_parts}
use Rattle.prog_question.proofs.read_question.Goals as goal

pub returns-then-line-gt-LONGEST : goal.returns-then-line-gt-LONGEST
returns-then-line-gt-LONGEST c = too_long c.args.line.now c.if-line-gt-LONGEST.true

pub returns-in_err-group : goal.returns-in_err-group
returns-in_err-group c = no_group c.args.line.now c.if-line-gt-LONGEST.false c.in_err-group.ensures ∙ ap asked (sym c.from_residual.ensures)

pub returns-in_err-user : goal.returns-in_err-user
returns-in_err-user c = no_user c.args.line.now c.if-line-gt-LONGEST.false c.in_ok-group.ensures c.in_err-user.ensures ∙ ap asked (sym c.from_residual-in_err-user.ensures)

pub returns-in_err-host : goal.returns-in_err-host
returns-in_err-host c = no_host c.args.line.now c.if-line-gt-LONGEST.false c.in_ok-group.ensures c.in_ok-user.ensures c.in_err-host.ensures ∙ ap asked (sym c.from_residual-in_err-host.ensures)

pub returns-in_err-level : goal.returns-in_err-level
returns-in_err-level c = no_level c.args.line.now c.if-line-gt-LONGEST.false c.in_ok-group.ensures c.in_ok-user.ensures c.in_ok-host.ensures c.in_err-level.ensures ∙ ap asked (sym c.from_residual-in_err-level.ensures)

pub returns-in_err-readings : goal.returns-in_err-readings
returns-in_err-readings c = no_readings c.args.line.now c.if-line-gt-LONGEST.false c.in_ok-group.ensures c.in_ok-user.ensures c.in_ok-host.ensures c.in_ok-level.ensures c.in_err-readings.ensures ∙ ap asked (sym c.from_residual-in_err-readings.ensures)

pub returns : goal.returns
returns c = all_parts c.args.line.now c.if-line-gt-LONGEST.false c.in_ok-group.ensures c.in_ok-user.ensures c.in_ok-host.ensures c.in_ok-level.ensures c.in_ok-readings.ensures ∙ ap (λ (g : List ℕ). question (question_of g c.in_ok-user.user.now c.in_ok-host.host.now c.in_ok-level.level c.in_ok-readings.readings)) (sym c.group_of.ensures)
