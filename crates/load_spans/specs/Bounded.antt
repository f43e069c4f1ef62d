-- The tokens of an accepted file: their texts lie in it, they have places, and they define few groups.
use Rattle.std.specs.Prelude.{List, ℕ, ◌≤◌, length}
use Rattle.load_spans.specs.Roles.{SpansFit, tally}

pub record Bounded (s places starts ends roles : List ℕ) (n : ℕ) : Type 0 where
  pub spans : SpansFit s starts ends roles n
  pub has_places : n ≤ length places
  pub user_groups : tally 1 roles 0 n ≤ 64
  pub host_groups : tally 3 roles 0 n ≤ 64
