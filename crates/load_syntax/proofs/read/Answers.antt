use Rattle.load_syntax.specs.laws.Syntax.{bad_read}
use Rattle.load_syntax.proofs.read.Goals as goal

pub scan-requires : goal.scan-requires
scan-requires c = record { short = record { bytes = c.requires.short }; room = c.requires.room }

pub returns-in-Err-clause-read : goal.returns-in-Err-clause-read
returns-in-Err-clause-read c = bad_read c.args.s.now _ c.in-Err.ensures.answer
