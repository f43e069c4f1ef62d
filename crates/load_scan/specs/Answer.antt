-- What the scanner promises.
use Rattle.std.specs.Prelude.{◌≡◌, List, ℕ, ◌≤◌, ◌<◌, length, take, Result, Ok, Err}
use Rattle.spec_token.specs.Token.{tokens, bad}
use Rattle.spec_token.specs.Scanner.{scanned}
use Rattle.load_tokens.specs.declared.Token.{Token}
use Rattle.load_tokens.specs.Arrays.{tokens_from}
use Rattle.load_tokens.specs.Stores.{Good}
use Rattle.load_tokens.specs.Views.{kept}

-- ts are the tokens of a text; where a token's text starts and ends is open but for the text between
pub record Whole (s : List ℕ) (ts : List Token) : Type 0 where
  pub same : scanned s ≡ tokens (tokens_from s (kept ts) 0 (length ts))
  pub few : length ts ≤ length s
  pub good : (i : ℕ) → i < length ts → Good (length s) (kept ts) i

-- the first of the tokens that were lent hold those of the text; the others, and all of them after a bad byte, are scratch
abbrev pub Answer : List ℕ → List Token → Result ℕ ℕ → Type 0
Answer s ts (Ok n) = (n ≤ length ts) × Whole s (take n ts)
Answer s ts (Err p) = scanned s ≡ bad p
