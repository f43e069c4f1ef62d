-- The limits of a file and of a table. 01, "Load refusals, in their order".
use Rattle.std.proofs.Math.Option.{Option, none, some}
use Rattle.std.specs.Prelude.{ℕ}
pub use Rattle.spec_calc.specs.Expression.{longest_calculation}
use Rattle.spec_grammar.specs.declared.Role.{Role}
use Rattle.spec_grammar.specs.declared.Role.TheVariants.{NoRole, UagName, User, HagName, Host, AsgName, Input, Pvname, RuleWord, Level, Permission}
use Rattle.spec_grammar.specs.declared.Role.TheVariants.{LogOption, UagNamed, HagNamed, CalcWord, Calculation, UnknownItem, UnknownPredicate}

-- 01: "file over 16,384 bytes", "strings at most 16,384 bytes"
abbrev pub most_bytes : ℕ
most_bytes = 16384

-- 01: "more than 16 braces open at once"
abbrev pub most_braces : ℕ
most_braces = 16

-- 01: "60 bytes are allowed in a group, user, host or process variable name and 79 in a calculation"
abbrev pub longest_name : ℕ
longest_name = 60

-- the sections of a table that hold records, in their order
pub data Section : Type 0 where
  user_groups host_groups members access_groups inputs rules references : Section

-- which section it is, the first being 0
abbrev pub order : Section → ℕ
order user_groups = 0
order host_groups = 1
order members = 2
order access_groups = 3
order inputs = 4
order rules = 5
order references = 6

-- 01: "64 UAG, 64 HAG, 64 ASG definitions, 1,024 members in all, 512 inputs, 256 rules, 1,024 group names inside rules"
abbrev pub most : Section → ℕ
most user_groups = 64
most host_groups = 64
most members = 1024
most access_groups = 64
most inputs = 512
most rules = 256
most references = 1024

-- 01: "the item is the name, the INP word or the RULE word": what a token adds a record to
abbrev pub item_of : Role → Option Section
item_of NoRole = none
item_of UagName = some user_groups
item_of User = some members
item_of HagName = some host_groups
item_of Host = some members
item_of AsgName = some access_groups
item_of Input = some inputs
item_of Pvname = none
item_of RuleWord = some rules
item_of Level = none
item_of Permission = none
item_of LogOption = none
item_of UagNamed = some references
item_of HagNamed = some references
item_of CalcWord = none
item_of Calculation = none
item_of UnknownItem = none
item_of UnknownPredicate = none

-- how long a token's text may be. 01: "strings in unknown elements have no limit"
abbrev pub longest : Role → Option ℕ
longest NoRole = none
longest UagName = some longest_name
longest User = some longest_name
longest HagName = some longest_name
longest Host = some longest_name
longest AsgName = some longest_name
longest Input = none
longest Pvname = some longest_name
longest RuleWord = none
longest Level = none
longest Permission = none
longest LogOption = none
longest UagNamed = some longest_name
longest HagNamed = some longest_name
longest CalcWord = none
longest Calculation = some longest_calculation
longest UnknownItem = none
longest UnknownPredicate = none
