-- The text of inputs.
use Rattle.std.specs.Prelude.{List, ◌++◌, map, ℕ}
use Rattle.spec_lists.specs.Text.{bytes}
use Rattle.spec_lists.specs.Select.{joined}
use Rattle.spec_lists.specs.Runs.{Run, part}
use Rattle.spec_file.specs.Limit.{inputs}
use Rattle.spec_table.specs.Layout.{Content}
use Rattle.spec_text.specs.Lines.{link_line}
use Rattle.spec_export.specs.Says.{link_in}

-- the line of an input
abbrev pub input_text : Content → List ℕ → List ℕ
input_text c row = link_line (link_in c row) ++ bytes "\n"

-- those of a run
abbrev pub inputs_text : Content → Run → List ℕ
inputs_text c r = joined (map (input_text c) (part r (c.records inputs)))
