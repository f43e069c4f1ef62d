-- The checker's lines in lent bytes.
use Rattle.std.specs.Prelude.{◌≡◌, List, ℕ, ◌*◌, ◌≤◌, length, take}
use Rattle.io.specs.Counts.{IsPrefixLen}
use Rattle.spec_file.specs.Limit.{most_bytes}
use Rattle.prog_text.specs.Put.{Put}
use Rattle.prog_warnings.specs.Lines.{longest_line}
use Rattle.prog_check.specs.Checked.{checked}

-- no file has more warnings than bytes, so that its lines have room in these
abbrev pub most_printed : ℕ
most_printed = most_bytes * longest_line

-- the lines for a text, from the start of the lent bytes on as far as there is room: all of them where there is room for the most
pub record Prints (s out out' : List ℕ) (r : ℕ) : Type 0 where
  pub put : Put (checked s) out 0 out' r
  pub counts : IsPrefixLen r out'
  pub whole : most_printed ≤ length out → take r out' ≡ checked s
