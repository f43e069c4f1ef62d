use mathlib.Core.Path.{refl}
use Rattle.spec_lists.proofs.laws.Same.{unchanged}
use Rattle.byte_write.specs.laws.Puts.{put_as}
use Rattle.text_marks.proofs.Writer.put.Goals as goal

pub returns : goal.returns
returns c = record { same = refl; put = put_as c.put_text-self.ensures (unchanged _) refl }
