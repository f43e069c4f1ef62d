-- The text of user groups and host groups.
use Rattle.std.specs.Prelude.{List, map, ℕ}
use Rattle.spec_lists.specs.Select.{joined}
use Rattle.spec_file.specs.Limit.{Section, user_groups, host_groups}
use Rattle.spec_table.specs.Layout.{Content}
use Rattle.spec_text.specs.Lines.{group_lines, ended}
use Rattle.spec_export.specs.Says.{group_in}

-- a section whose groups have members
pub data HasMembers : Section → Type 0 where
  users : HasMembers user_groups
  hosts : HasMembers host_groups

-- a group, whose definition begins with a word
abbrev pub group_text : Content → Section → List ℕ → List ℕ → List ℕ
group_text c s word row = ended (group_lines word (group_in c s row))

-- all groups of a section
abbrev pub groups_text : Content → Section → List ℕ → List ℕ
groups_text c s word = joined (map (group_text c s word) (c.records s))
