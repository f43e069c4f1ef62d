use Rattle.std.proofs.Common.{[]}
use Rattle.spec_grammar.specs.Reader.{inner}
use Rattle.load_elements.specs.laws.Tokens.{stops, ends}
use Rattle.load_blocks.proofs.block.Goals as goal

pub returns-in_err-opened : goal.returns-in_err-opened
returns-in_err-opened c = stops [] (c.in_err-opened.ensures.at_depth inner) c.from_residual.ensures.1

pub returns : goal.returns
returns c = ends (c.in_ok-opened.ensures.at_depth inner) c.nested.ensures
