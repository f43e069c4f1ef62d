use Rattle.load_syntax.specs.laws.Syntax.{deep_parsed, whole_parsed, stop_parsed}
use Rattle.load_syntax.proofs.parse.Goals as goal

pub returns-in-Some : goal.returns-in-Some
returns-in-Some c = λ s. deep_parsed s c.args.tokens.now c.args.long (c.in-Some.ensures s)

pub returns-in-Ok : goal.returns-in-Ok
returns-in-Ok c = λ s. whole_parsed s c.args.tokens.now c.args.long _ (c.in_default.ensures s) c.in-Ok.ensures

pub returns-in-Err : goal.returns-in-Err
returns-in-Err c = λ s. stop_parsed s c.args.tokens.now c.args.long _ (c.in_default.ensures s) c.in-Err.ensures c.place_of.ensures
