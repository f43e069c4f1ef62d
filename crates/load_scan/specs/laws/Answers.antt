-- What the scan returns at a bad byte.
use Rattle.std.specs.Prelude.{◌≡◌, List, ℕ, Result, Ok, Err, IsErrAnd}
use Rattle.std.proofs.Common.{sym, ap, ◌∙◌}
use Rattle.spec_token.specs.Token.{bad}
use Rattle.spec_token.specs.Scanner.{scanned}
use Rattle.load_tokens.specs.declared.Token.{Token}
use Rattle.load_scan.specs.Answer.{Answer}

pub bad_answer : (s : List ℕ) (ts : List Token) {i : ℕ} (r : Result ℕ ℕ) → scanned s ≡ bad i → IsErrAnd r (λ y. y ≡ i) → Answer s ts r
bad_answer s ts (Ok n) v e = absurd e
bad_answer s ts (Err y) v e = v ∙ ap bad (sym e)
