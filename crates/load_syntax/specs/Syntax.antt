-- What reading a text comes to: the refusals 2 to 4 of 01.
use Rattle.std.specs.Prelude.{◌≡◌, List, ℕ, ◌≤◌, ◌<◌, length, take, Result, Ok, Err}
use Rattle.spec_token.specs.Scanner.{scanned}
use Rattle.spec_grammar.specs.Sentence.{Tagged}
use Rattle.spec_grammar.specs.Reader.{parsed, read}
use Rattle.load_tokens.specs.declared.Token.{Token}
use Rattle.load_tokens.specs.Arrays.{tokens_from, tagged_from}
use Rattle.load_tokens.specs.Stores.{Good}
use Rattle.load_tokens.specs.Views.{roles, kept}
use Rattle.spec_file.specs.declared.Refusal.{Refusal}
use Rattle.spec_file.specs.Limit.{most_bytes}
use Rattle.spec_file.specs.Depth.{too_deep}
use Rattle.spec_file.specs.Load.{Verdict, refuse, accept, by_grammar, by_depth, by_tokens}

-- what the tokens ts of a text s say
abbrev pub tagged : List ℕ → List Token → List Tagged
tagged s ts = tagged_from s (kept ts) (roles ts) 0 (length ts)

-- how many of the tokens are the file's
abbrev pub count : Result ℕ (Refusal × ℕ) → ℕ
count (Ok n) = n
count (Err e) = 0

-- the verdict if the causes are still to come
abbrev pub open_verdict : List ℕ → List Token → Result ℕ (Refusal × ℕ) → Verdict
open_verdict s ts (Ok n) = by_grammar (parsed (tagged s (take n ts)))
open_verdict s ts (Err e) = refuse e.0 e.1

-- the verdict if none is to come
abbrev pub final_verdict : List ℕ → List Token → Result ℕ (Refusal × ℕ) → Verdict
final_verdict s ts (Ok n) = accept (tagged s (take n ts))
final_verdict s ts (Err e) = refuse e.0 e.1

-- the text is not too long, and there is room for its tokens, of which there are no more than bytes
pub record Capacity (s : List ℕ) (ts : List Token) : Type 0 where
  pub short : length s ≤ most_bytes
  pub room : length s ≤ length ts

-- the verdict from 3 on, if the causes are still to come
abbrev pub parsed_verdict : List ℕ → List Token → Result Unit (Refusal × ℕ) → Verdict
parsed_verdict s ts (Ok u) = by_grammar (parsed (tagged s ts))
parsed_verdict s ts (Err e) = refuse e.0 e.1

-- 3 and 4, of the tokens ts; m is the length of the text
pub record Parsed (s : List ℕ) (ts ts' : List Token) (m : ℕ) (r : Result Unit (Refusal × ℕ)) : Type 0 where
  pub same :
      by_depth (too_deep 0 (tokens_from s (kept ts) 0 (length ts))) (read (tokens_from s (kept ts) 0 (length ts)) m) ≡ parsed_verdict s ts' r
  pub others : kept ts' ≡ kept ts

-- 2 to 4
pub record Read (s : List ℕ) (ts : List Token) (r : Result ℕ (Refusal × ℕ)) : Type 0 where
  pub same : by_tokens (length s) (scanned s) ≡ open_verdict s ts r
  pub few : count r ≤ length s
  pub within : count r ≤ length ts
  pub good : (i : ℕ) → i < count r → Good (length s) (kept (take (count r) ts)) i
