use Rattle.std.proofs.Common.{arith}
use Rattle.load_scan.specs.Stored.{kept_as}
use Rattle.load_scan.specs.laws.Filled.{filled_none, filled_more, filled_whole, filled_bad, small}
use Rattle.load_scan.specs.laws.Answers.{bad_answer}
use Rattle.load_scan.proofs.scan.Goals as goal

pub loop-at-init : goal.loop-at-init
loop-at-init c = filled_none _ _ c.requires.room

pub returns-in_err-entry-clause-answer : goal.returns-in_err-entry-clause-answer
returns-in_err-entry-clause-answer c = bad_answer c.args.s.now c.loop-at.tokens c.from_residual.result (filled_bad c.loop-at.invariant c.in_err-entry.ensures) c.from_residual.ensures.1

pub kept_as-requires : goal.kept_as-requires
kept_as-requires c = small {at = c.loop-at.at} {to = c.in-Token.to} c.requires.short.bytes (rw c.in-Token.is at c.in_ok-entry.ensures)

pub loop-at-preserved-in-Token : goal.loop-at-preserved-in-Token
loop-at-preserved-in-Token c = rw c.kept_as.ensures (filled_more c.loop-at.invariant (kept_as c.in-Token.entry) c.loop-at-test.true (rw c.in-Token.is at c.in_ok-entry.ensures))

pub returns-clause-answer : goal.returns-clause-answer
returns-clause-answer c = (omega (arith, c.loop-at.invariant.few, c.loop-at.invariant.high, c.loop-at.invariant.room), filled_whole c.loop-at.invariant c.loop-at-test.false)
