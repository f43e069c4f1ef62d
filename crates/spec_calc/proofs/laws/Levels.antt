-- Prefixes are tighter than all operators, so every symbol ends them.
use Rattle.std.specs.Prelude.{◌≤◌, ◌<◌}
use Rattle.std.proofs.Common.{arith}
use Rattle.spec_calc.specs.declared.Operator.{Operator}
use Rattle.spec_calc.specs.declared.Operator.TheVariants.{Or, And, Less, AtMost, More, AtLeast, Equal, Differs, Plus, Minus, Times, Over}
use Rattle.spec_calc.specs.Symbol.{Symbol, number, letter, operator, not_sign, question, colon, open_paren, close_paren}
use Rattle.spec_calc.specs.Expression.{level, prefix_level}
use Rattle.spec_calc.specs.Reader.{ends}

pub level_bound : (o : Operator) → level o < prefix_level
level_bound Or = omega arith
level_bound And = omega arith
level_bound Less = omega arith
level_bound AtMost = omega arith
level_bound More = omega arith
level_bound AtLeast = omega arith
level_bound Equal = omega arith
level_bound Differs = omega arith
level_bound Plus = omega arith
level_bound Minus = omega arith
level_bound Times = omega arith
level_bound Over = omega arith

pub ends_bound : (x : Symbol) → ends x ≤ prefix_level
ends_bound (number v) = omega arith
ends_bound (letter i) = omega arith
ends_bound (operator o) = level_bound o
ends_bound not_sign = omega arith
ends_bound question = omega arith
ends_bound colon = omega arith
ends_bound open_paren = omega arith
ends_bound close_paren = omega arith
