-- Every evaluated part is finite exactly if the whole is, and so are the parts of its operands.
use Rattle.std.specs.Prelude.{◌≡◌, Bool, ◌&&◌, List, ◌++◌}
use Rattle.std.proofs.Math.Path.{refl}
use Rattle.std.proofs.Math.Bool.{true, false, cond}
use Rattle.spec_lists.specs.Select.{all}
use Rattle.spec_lists.proofs.laws.Every.{all_append}
use Rattle.spec_calc.specs.declared.Operator.{Operator}
use Rattle.spec_calc.specs.declared.Reading.{Reading}
use Rattle.spec_calc.specs.Expression.{Tree, minus, negation, binary, choice}
use Rattle.spec_calc.specs.Value.{is_true, value, finite, evaluated, finite_throughout}

module _ (rs : List Reading) where
  abbrev finite_part : Tree → Bool
  finite_part u = finite (value rs u)

  pub minus_throughout : (t : Tree) → finite_throughout rs (minus t) ≡ finite (value rs (minus t)) && finite_throughout rs t
  unfolding evaluated
  minus_throughout t = refl

  pub negation_throughout : (t : Tree) → finite_throughout rs (negation t) ≡ finite (value rs (negation t)) && finite_throughout rs t
  unfolding evaluated
  negation_throughout t = refl

  pub binary_throughout :
      (o : Operator) (t u : Tree)
      → finite_throughout rs (binary o t u) ≡ finite (value rs (binary o t u)) && (finite_throughout rs t && finite_throughout rs u)
  unfolding evaluated
  binary_throughout o t u = rw (all_append finite_part (evaluated rs t) (evaluated rs u))

  pub choice_throughout :
      (c x y : Tree)
      → finite_throughout rs (choice c x y)
      ≡ finite (value rs (choice c x y)) && (finite_throughout rs c && cond (is_true (value rs c)) (finite_throughout rs x) (finite_throughout rs y))
  unfolding evaluated
  choice_throughout c x y = go (is_true (value rs c))
    where
      go :
          (b : Bool)
          → finite_part (choice c x y) && all finite_part (evaluated rs c ++ cond b (evaluated rs x) (evaluated rs y))
          ≡ finite_part (choice c x y) && (finite_throughout rs c && cond b (finite_throughout rs x) (finite_throughout rs y))
      go true = rw (all_append finite_part (evaluated rs c) (evaluated rs x))
      go false = rw (all_append finite_part (evaluated rs c) (evaluated rs y))
