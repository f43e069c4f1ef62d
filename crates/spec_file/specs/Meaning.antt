-- The rules of a file, each with the members of the groups that it names. 01, "The question"; 001, "Definitions".
use Rattle.std.specs.Prelude.{Bool, List, [], map, ℕ}
use Rattle.std.proofs.Math.Option.{Option, none, some}
use Rattle.spec_lists.specs.Text.{lowered}
use Rattle.spec_lists.specs.Select.{nonempty}
use Rattle.spec_rule.specs.Rule.{Rule}
use Rattle.spec_rule.specs.Answering.{named}
use Rattle.spec_file.specs.Contents.{Group, RuleText, File}

abbrev pub members_in : Option Group → List (List ℕ)
members_in none = []
members_in (some g) = g.members

-- the members of the group of that name. 01: "An undefined UAG [..] has no members."
abbrev pub members_named : List Group → List ℕ → List (List ℕ)
members_named gs s = members_in (named (λ g. g.name) s gs)

-- 01: "switched off (its body has an unknown predicate)"; 001: "If the rule contains predicates that are unknown to the parser [..] then the rule
-- will NOT match"
abbrev pub switched_off : RuleText → Bool
switched_off r = nonempty r.unknown

-- a rule of a file. 001: "both names are converted to lower case before comparison"
abbrev pub rule_in : File → RuleText → Rule
rule_in f r =
    record {
      level = r.level;
      permission = r.permission;
      trap = r.trap;
      switched_off = switched_off r;
      uags = map (members_named f.uags) r.uags;
      hags = map (λ s. map lowered (members_named f.hags s)) r.hags;
      calculation = r.calculation;
    }
