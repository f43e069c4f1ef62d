-- The parts of the file that a table says, and its rules judged by the letters that an array gives.
use Rattle.std.specs.Prelude.{◌≡◌, Bool, List, map, ℕ}
use Rattle.spec_lists.specs.Select.{any}
use Rattle.spec_file.specs.Limit.{Section, access_groups, rules}
use Rattle.spec_file.specs.Contents.{Group, RuleText, Asg}
use Rattle.spec_table.specs.View.{view}
use Rattle.spec_table.specs.Policy.{row}
use Rattle.spec_text.specs.Faults.{rule_faulty}
use Rattle.spec_export.specs.Says.{group_in, rule_text_in, asg_in, file_in}
use Rattle.text_letters.specs.Letters.{LettersAre}

-- the groups of a section
abbrev pub groups_in : List ℕ → Section → List Group
groups_in b s = map (group_in (view b) s) ((view b).records s)

-- the i-th rule
abbrev pub rule_at : List ℕ → ℕ → RuleText
rule_at b i = rule_text_in (view b) (row (view b) rules i)

-- the i-th access group
abbrev pub asg_at : List ℕ → ℕ → Asg
asg_at b i = asg_in (view b) (row (view b) access_groups i)

-- whether the i-th rule is faulty
abbrev pub RuleJudged : List ℕ → ℕ → List Bool → Bool → Type 0
RuleJudged b i given r = (ls : List ℕ) → LettersAre given ls → r ≡ rule_faulty (file_in (view b)) ls (rule_at b i)

-- whether one of the i-th access group's rules is faulty
abbrev pub RulesJudged : List ℕ → ℕ → List Bool → Bool → Type 0
RulesJudged b i given r = (ls : List ℕ) → LettersAre given ls → r ≡ any (rule_faulty (file_in (view b)) ls) (asg_at b i).rules
