use Rattle.std.proofs.Common.{◌∙◌}
use Rattle.spec_lists.proofs.laws.Same.{unchanged}
use Rattle.load_records.specs.laws.Cursors.{emitted_text}
use Rattle.load_records.proofs.TextEntry.put.Goals as goal

pub returns : goal.returns
returns c = emitted_text (unchanged c.text_of.result.now ∙ c.text_of.ensures) c.put_string.ensures
