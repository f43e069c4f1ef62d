-- The file that a table says. 02, ticket 6: "Write the rules back as text".
use Rattle.std.specs.Prelude.{cond, List, [], ◌∷◌, map, ℕ}
use Rattle.spec_lists.specs.Runs.{Run, part}
use Rattle.spec_file.specs.Limit.{Section, user_groups, host_groups, access_groups, inputs, rules, references}
use Rattle.spec_file.specs.Contents.{Group, Link, RuleText, Asg, File}
use Rattle.spec_table.specs.Layout.{Content}
use Rattle.spec_table.specs.Table.{inputs_run, rules_run, letter_field, users_run, hosts_run}
use Rattle.spec_table.specs.Policy.{name, members_of, rule_of}

-- a user or host group
abbrev pub group_in : Content → Section → List ℕ → Group
group_in c s row = record { name = name c s row; members = members_of c row }

abbrev pub link_in : Content → List ℕ → Link
link_in c row = record { letter = letter_field row; name = name c inputs row }

-- "references by their stored names"
abbrev pub names_in : Content → Run → List (List ℕ)
names_in c r = map (name c references) (part r (c.records references))

abbrev pub rule_text_in : Content → List ℕ → RuleText
rule_text_in c row =
    record {
      level = (rule_of c row).level;
      permission = (rule_of c row).permission;
      trap = (rule_of c row).trap;
      uags = names_in c (users_run row);
      hags = names_in c (hosts_run row);
      calculation = (rule_of c row).calculation;
      -- it has an unknown predicate if it is switched off; a table does not say where that stood
      unknown = cond (rule_of c row).switched_off (0 ∷ []) [];
    }

abbrev pub asg_in : Content → List ℕ → Asg
asg_in c row =
    record {
      name = name c access_groups row;
      inputs = map (link_in c) (part (inputs_run row) (c.records inputs));
      rules = map (rule_text_in c) (part (rules_run row) (c.records rules));
    }

-- what a table says, read as a file
abbrev pub file_in : Content → File
file_in c =
    record {
      uags = map (group_in c user_groups) (c.records user_groups);
      hags = map (group_in c host_groups) (c.records host_groups);
      asgs = map (asg_in c) (c.records access_groups);
    }
