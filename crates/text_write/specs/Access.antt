-- The text of access groups.
use Rattle.std.specs.Prelude.{List, map, ℕ}
use Rattle.spec_lists.specs.Select.{joined}
use Rattle.spec_file.specs.Limit.{access_groups}
use Rattle.spec_table.specs.Layout.{Content}
use Rattle.spec_text.specs.Lines.{asg_lines, ended}
use Rattle.spec_export.specs.Says.{asg_in}

abbrev pub access_text : Content → List ℕ → List ℕ
access_text c row = ended (asg_lines (asg_in c row))

-- all access groups
abbrev pub accesses_text : Content → List ℕ
accesses_text c = joined (map (access_text c) (c.records access_groups))
