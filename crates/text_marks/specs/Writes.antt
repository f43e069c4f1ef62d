-- What writing a text leaves in a writer.
use Rattle.std.specs.Prelude.{◌≡◌, List, ℕ}
use Rattle.byte_write.specs.Put.{Put}
use Rattle.text_marks.specs.declared.Writer.{Writer}

-- writing ws turns the writer w into v: the same lent bytes, with ws at the place, which moves behind it
pub record Writes (w v : Writer) (ws : List ℕ) : Type 0 where
  pub same : v.lent.ghost_name ≡ w.lent.ghost_name
  pub put : Put w.lent.now v.lent.now w.at ws v.at
