-- The verdict on a text up to refusal 10, and its tokens.
use Rattle.std.specs.Prelude.{◌≡◌, List, ℕ, ◌≤◌, ◌<◌, length, take, Result}
use Rattle.spec_file.specs.declared.Refusal.{Refusal}
use Rattle.spec_file.specs.Limit.{most_bytes}
use Rattle.spec_file.specs.Load.{verdict}
use Rattle.load_tokens.specs.declared.Token.{Token}
use Rattle.load_tokens.specs.Stores.{Good}
use Rattle.load_tokens.specs.Views.{kept}
use Rattle.load_syntax.specs.Syntax.{count, final_verdict}

-- the verdict on a text; the first of ts, as many as the answer says, are its tokens
pub record Judged (s : List ℕ) (ts : List Token) (r : Result ℕ (Refusal × ℕ)) : Type 0 where
  pub same : verdict s ≡ final_verdict s ts r
  pub short : length s ≤ most_bytes
  pub few : count r ≤ length s
  pub within : count r ≤ length ts
  pub good : (i : ℕ) → i < count r → Good (length s) (kept (take (count r) ts)) i
