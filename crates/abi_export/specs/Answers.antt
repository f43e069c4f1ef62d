-- What an export leaves and answers.
use Rattle.std.specs.Prelude.{◌≡◌, List, ℕ}
use Rattle.spec_export.specs.Export.{Result}
use Rattle.api_numbers.specs.Numbers.{exported_number}

pub record Leaves (o : Result) (bytes : List ℕ) (r : ℕ) : Type 0 where
  pub left : bytes ≡ o.bytes
  pub answered : r ≡ exported_number o.answer
