use Rattle.std.proofs.Common.{[]}
use Rattle.spec_grammar.specs.Reader.{top}
use Rattle.load_elements.specs.laws.Tokens.{unread, stops, ends}
use Rattle.load_blocks.proofs.top_block.Goals as goal

pub returns-in_err-open_block : goal.returns-in_err-open_block
returns-in_err-open_block c = stops [] (c.in_err-open_block.ensures.at_depth top) c.from_residual.ensures.1

pub returns-in-One : goal.returns-in-One
returns-in-One c = ends (rw c.in-One.is at (c.in_ok-open_block.ensures.at_depth top)) c.second_block.ensures

pub returns-in-Done : goal.returns-in-Done
returns-in-Done c = ends (rw c.in-Done.is at (c.in_ok-open_block.ensures.at_depth top)) unread

pub returns-in-Nested : goal.returns-in-Nested
returns-in-Nested c = ends (rw c.in-Nested.is at (c.in_ok-open_block.ensures.at_depth top)) c.nested.ensures
