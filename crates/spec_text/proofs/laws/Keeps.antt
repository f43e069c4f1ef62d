-- What is asked of a file so that its text can be read: its strings can be quoted, and it keeps the limits that every table keeps.
use Rattle.std.specs.Prelude.{◌≡◌, false, List, ◌++◌, map, ℕ, ◌+◌, ◌≤◌, length}
use Rattle.std.proofs.Math.Option.{Option, none, some}
use Rattle.spec_lists.specs.Select.{joined, missing}
use Rattle.spec_lists.specs.Every.{Every}
use Rattle.spec_calc.specs.Reader.{tree_of}
use Rattle.spec_token.specs.Word.{greatest_letter}
use Rattle.spec_token.specs.Token.{BetweenQuotes}
use Rattle.spec_rule.specs.Answering.{greatest_level}
use Rattle.spec_file.specs.Limit.{user_groups, host_groups, members, access_groups, inputs, rules, references, most, longest_name}
use Rattle.spec_file.specs.Limit.{longest_calculation}
use Rattle.spec_file.specs.Contents.{Group, Link, RuleText, Asg, File}

-- every string passes, a calculation by a test of its own
module _ (P Q : List ℕ → Type 0) where
  pub data CalculationOf : Option (List ℕ) → Type 0 where
    without : CalculationOf none
    with : {s : List ℕ} → Q s → CalculationOf (some s)

  pub record GroupOf (g : Group) : Type 0 where
    pub name : P g.name
    pub members : Every P g.members

  pub record RuleOf (r : RuleText) : Type 0 where
    pub uags : Every P r.uags
    pub hags : Every P r.hags
    pub calculation : CalculationOf r.calculation

  pub record AsgOf (a : Asg) : Type 0 where
    pub name : P a.name
    pub inputs : Every (λ (i : Link). P i.name) a.inputs
    pub rules : Every RuleOf a.rules

  pub record StringsOf (f : File) : Type 0 where
    pub uags : Every GroupOf f.uags
    pub hags : Every GroupOf f.hags
    pub asgs : Every AsgOf f.asgs

-- every string of a file can stand between quotes
abbrev pub Quotable : File → Type 0
Quotable = StringsOf BetweenQuotes BetweenQuotes

abbrev pub ShortName : List ℕ → Type 0
ShortName s = length s ≤ longest_name

-- a calculation of at most 79 bytes, its letters aside
pub record ShortCalculation (s : List ℕ) : Type 0 where
  pub short : length s ≤ longest_calculation
  pub tree : missing (tree_of s) ≡ false

abbrev pub Short : File → Type 0
Short = StringsOf ShortName ShortCalculation

-- the levels are 0 or 1, the letters A to U
pub record AsgNamed (a : Asg) : Type 0 where
  pub letters : Every (λ (i : Link). i.letter ≤ greatest_letter) a.inputs
  pub levels : Every (λ (r : RuleText). r.level ≤ greatest_level) a.rules

abbrev pub named_in : RuleText → List (List ℕ)
named_in r = r.uags ++ r.hags

-- not too many of anything
pub record Few (f : File) : Type 0 where
  pub uags : length f.uags ≤ most user_groups
  pub hags : length f.hags ≤ most host_groups
  pub members : length (joined (map (λ g. g.members) f.uags)) + length (joined (map (λ g. g.members) f.hags)) ≤ most members
  pub asgs : length f.asgs ≤ most access_groups
  pub inputs : length (joined (map (λ a. a.inputs) f.asgs)) ≤ most inputs
  pub rules : length (joined (map (λ a. a.rules) f.asgs)) ≤ most rules
  pub references : length (joined (map named_in (joined (map (λ a. a.rules) f.asgs)))) ≤ most references

-- the limits that every table keeps
pub record Keeps (f : File) : Type 0 where
  pub short : Short f
  pub named : Every AsgNamed f.asgs
  pub few : Few f
