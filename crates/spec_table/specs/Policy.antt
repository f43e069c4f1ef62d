-- The groups and rules that a table's content stands for. 01, "The stored table" and "The question".
use Rattle.std.specs.Prelude.{Bool, true, false, cond, List, [], map, ℕ, zero, suc, eqb, get_or}
use Rattle.std.proofs.Math.Option.{none, some}
use Rattle.spec_lists.specs.Runs.{Run, part}
use Rattle.spec_rule.specs.declared.Access.{Access}
use Rattle.spec_rule.specs.declared.Access.TheVariants as access
use Rattle.spec_rule.specs.Rule.{Rule}
use Rattle.spec_file.specs.Limit.{Section, user_groups, host_groups, members, rules, references}
use Rattle.spec_table.specs.Layout.{Content}
use Rattle.spec_table.specs.Table.{members_run, rules_run, number_field, flags_field, users_run, hosts_run, calculation_run, name_run, level_bit}
use Rattle.spec_table.specs.Table.{permission_bits, trap_bit, bits_from_4, undefined_number, no_calculation}

-- the string that a run of the strings is
abbrev pub string : Content → Run → List ℕ
string c r = part r c.strings

-- the name of a record of a section
abbrev pub name : Content → Section → List ℕ → List ℕ
name c s row = string c (name_run s row)

-- the members of a user or host group
abbrev pub members_of : Content → List ℕ → List (List ℕ)
members_of c row = map (name c members) (part (members_run row) (c.records members))

-- the members of the group that a reference's number gives. 01: "An undefined UAG [..] has no members."
abbrev pub referred : Content → Section → List ℕ → List (List ℕ)
referred c s row =
    cond (eqb (number_field row) undefined_number) [] (members_of c (get_or (c.records s) (number_field row) []))

-- "permission (0, 1, 2)"
abbrev pub permission : ℕ → Access
permission zero = access.None
permission (suc zero) = access.Read
permission (suc (suc n)) = access.Write

-- a bit that is 1
abbrev pub set_bit : ℕ → Bool
set_bit zero = false
set_bit (suc n) = true

-- the rule of a rule record
abbrev pub rule_of : Content → List ℕ → Rule
rule_of c row =
    record {
      level = level_bit (flags_field row);
      permission = permission (permission_bits (flags_field row));
      trap = set_bit (trap_bit (flags_field row));
      switched_off = set_bit (bits_from_4 (flags_field row));
      uags = map (referred c user_groups) (part (users_run row) (c.records references));
      hags = map (referred c host_groups) (part (hosts_run row) (c.records references));
      calculation = cond (no_calculation (calculation_run row)) none (some (string c (calculation_run row)));
    }

-- the rules of an access group
abbrev pub rules_of : Content → List ℕ → List Rule
rules_of c row = map (rule_of c) (part (rules_run row) (c.records rules))

-- a record of a section, by its number
abbrev pub row : Content → Section → ℕ → List ℕ
row c s i = get_or (c.records s) i []
