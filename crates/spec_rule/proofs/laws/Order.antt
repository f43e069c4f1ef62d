-- The order of accesses that is derived is that of their ranks.
use Rattle.std.specs.Prelude.{◌≡◌, refl, leb}
use Rattle.std.specs.Ordering.{partial_le}
use Rattle.spec_rule.specs.contracts.AccessPartialOrd.TheImpl.{partial_cmp-value}
use Rattle.spec_rule.specs.declared.Access.{Access}
use Rattle.spec_rule.specs.declared.Access.TheVariants.{None, Read, Write}
use Rattle.spec_rule.specs.Rule.{rank}

pub order_by_rank : (a b : Access) → partial_le partial_cmp-value.it a b ≡ leb (rank a) (rank b)
order_by_rank None None = refl
order_by_rank None Read = refl
order_by_rank None Write = refl
order_by_rank Read None = refl
order_by_rank Read Read = refl
order_by_rank Read Write = refl
order_by_rank Write None = refl
order_by_rank Write Read = refl
order_by_rank Write Write = refl
