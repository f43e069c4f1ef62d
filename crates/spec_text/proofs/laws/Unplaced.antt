-- A file without the places of its unknown predicates: nothing but whether there is one counts for a rule, for a table and for a text.
use Rattle.std.specs.Prelude.{cond, [], ◌∷◌, map}
use Rattle.spec_lists.specs.Text.{lowered}
use Rattle.spec_file.specs.Contents.{Group, RuleText, Asg, File}
use Rattle.spec_file.specs.Meaning.{switched_off}

abbrev pub unplaced_rule : RuleText → RuleText
unplaced_rule r =
    record {
      level = r.level;
      permission = r.permission;
      trap = r.trap;
      uags = r.uags;
      hags = r.hags;
      calculation = r.calculation;
      unknown = cond (switched_off r) (0 ∷ []) [];
    }

abbrev pub unplaced_asg : Asg → Asg
unplaced_asg a = record { name = a.name; inputs = a.inputs; rules = map unplaced_rule a.rules }

abbrev pub unplaced : File → File
unplaced f = record { uags = f.uags; hags = f.hags; asgs = map unplaced_asg f.asgs }

abbrev pub lowered_group : Group → Group
lowered_group g = record { name = g.name; members = map lowered g.members }

-- what a table keeps of a file: its hosts in lower case, and no places
abbrev pub kept : File → File
kept f = record { uags = f.uags; hags = map lowered_group f.hags; asgs = map unplaced_asg f.asgs }
