-- The value of a whole text.
use Rattle.std.specs.Prelude.{List, Float, Option as Maybe, Some, None}
use Rattle.std.proofs.Math.Option.{Option, none, some}
use Rattle.spec_calc.specs.declared.Reading.{Reading}
use Rattle.spec_calc.specs.Expression.{Tree}
use Rattle.calc_value.specs.Strict.{strict_value}

-- what a calculation comes to, if there is one
abbrev pub computed : List Reading → Option Tree → Maybe Float
computed rs none = None
computed rs (some t) = Some (strict_value rs t)
