-- The flags of a rule, from the tokens that belong to it.
use Rattle.std.specs.Prelude.{false, cond, List, ℕ, ◌*◌, eqb}
use Rattle.spec_grammar.specs.declared.Role.TheVariants.{Level, Permission, LogOption}
use Rattle.spec_grammar.specs.Sentence.{Tagged}
use Rattle.spec_rule.specs.declared.Access.TheVariants.{None}
use Rattle.spec_rule.specs.Rule.{rank}
use Rattle.spec_file.specs.Contents.{texts, value_of, level_of, permission_of, log_of}
use Rattle.spec_table.specs.Written.{flag}

abbrev pub level_bits : List Tagged → ℕ
level_bits xs = value_of 0 level_of (texts Level xs)

abbrev pub permission_bits : List Tagged → ℕ
permission_bits xs = rank (value_of None permission_of (texts Permission xs)) * 2

abbrev pub trap_bits : List Tagged → ℕ
trap_bits xs = flag (value_of false log_of (texts LogOption xs)) 8

-- n: how many unknown predicates the rule has
abbrev pub off_bits : ℕ → ℕ
off_bits n = cond (eqb n 0) 0 16
