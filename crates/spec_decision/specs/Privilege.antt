-- The access privilege by 001's steps, from a table and from a file.
use Rattle.std.specs.Prelude.{map}
use Rattle.spec_rule.specs.declared.Decision.{Decision}
use Rattle.spec_rule.specs.Question.{Question}
use Rattle.spec_rule.specs.Privilege.{Determined}
use Rattle.spec_file.specs.Contents.{File}
use Rattle.spec_file.specs.Meaning.{rule_in}
use Rattle.spec_file.specs.Limit.{access_groups}
use Rattle.spec_table.specs.Layout.{Content}
use Rattle.spec_table.specs.Policy.{name, rules_of}

-- the groups and rules of a table's content give the question the decision
abbrev pub DeterminedByTable : Content → Question → Decision → Type 0
DeterminedByTable c = Determined (name c access_groups) (rules_of c) (c.records access_groups)

-- those of a file do
abbrev pub DeterminedByFile : File → Question → Decision → Type 0
DeterminedByFile f = Determined (λ a. a.name) (λ a. map (rule_in f) a.rules) f.asgs
