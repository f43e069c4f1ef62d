-- Operations that let no value slip through that is infinite or not-a-number: where a side or a condition is one, the result is not-a-number.
-- 02: "An infinite or not-a-number value of any evaluated part makes the whole calculation false".
use Rattle.std.specs.Prelude.{not, cond, ◌&&◌, Float}
use Rattle.std.specs.Float.{nan}
use Rattle.spec_calc.specs.declared.Operator.{Operator}
use Rattle.spec_calc.specs.Value.{truth, is_true, apply, finite}

-- `!x`
abbrev pub strict_not : Float → Float
strict_not x = cond (finite x) (truth (not (is_true x))) nan

-- the operator o between x and y: "both sides of `&&` and `||` are evaluated", as those of every other
abbrev pub strict_apply : Operator → Float → Float → Float
strict_apply o x y = cond (finite x && finite y) (apply o x y) nan

-- `c ? x : y`: "the branch not chosen isn't"
abbrev pub strict_choice : Float → Float → Float → Float
strict_choice c x y = cond (finite c) (cond (is_true c) x y) nan
