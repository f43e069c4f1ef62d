-- The value that the code works out as it reads: finite exactly if every evaluated part is, and then the value (laws/Strict.antt).
use Rattle.std.specs.Prelude.{List, Float}
use Rattle.std.specs.Float.Ieee.{neg}
use Rattle.spec_calc.specs.declared.Reading.{Reading}
use Rattle.spec_calc.specs.Expression.{Tree, number_tree, letter_tree, minus, negation, binary, choice}
use Rattle.spec_calc.specs.Value.{heard, reading}
use Rattle.calc_arith.specs.Strict.{strict_not, strict_apply, strict_choice}

unfoldable pub strict_value : List Reading → Tree → Float
strict_value rs (number_tree x) = x
strict_value rs (letter_tree i) = heard (reading rs i)
strict_value rs (minus t) = neg (strict_value rs t)
strict_value rs (negation t) = strict_not (strict_value rs t)
strict_value rs (binary o t u) = strict_apply o (strict_value rs t) (strict_value rs u)
strict_value rs (choice c x y) = strict_choice (strict_value rs c) (strict_value rs x) (strict_value rs y)
