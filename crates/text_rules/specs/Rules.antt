-- The text of rules.
use Rattle.std.specs.Prelude.{List, map, ℕ}
use Rattle.spec_lists.specs.Select.{joined}
use Rattle.spec_lists.specs.Runs.{Run, part}
use Rattle.spec_file.specs.Limit.{rules}
use Rattle.spec_table.specs.Layout.{Content}
use Rattle.spec_text.specs.Lines.{rule_lines, ended}
use Rattle.spec_export.specs.Says.{rule_text_in}

abbrev pub rule_text : Content → List ℕ → List ℕ
rule_text c row = ended (rule_lines (rule_text_in c row))

-- the rules of a run
abbrev pub rules_text : Content → Run → List ℕ
rules_text c r = joined (map (rule_text c) (part r (c.records rules)))
