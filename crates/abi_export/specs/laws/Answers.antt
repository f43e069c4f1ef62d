-- The call answers what the function that it calls answers.
use Rattle.std.specs.Prelude.{◌≡◌, ℕ}
use Rattle.std.proofs.Common.{ap, ◌∙◌}
use Rattle.spec_export.specs.Export.{Result}
use Rattle.api_numbers.specs.Numbers.{exported_number}
use Rattle.abi_export.specs.Answers.{Leaves}

pub leaves : {o o' : Result} {r : ℕ} → o ≡ o' → r ≡ exported_number o.answer → Leaves o' o.bytes r
leaves e g = record { left = ap (λ (x : Result). x.bytes) e; answered = g ∙ ap (λ (x : Result). exported_number x.answer) e }
