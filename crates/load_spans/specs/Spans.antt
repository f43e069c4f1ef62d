-- Where the texts of tokens stand: spans of the file.
use Rattle.std.specs.Prelude.{ℕ, ◌<◌, List, length, get_or}
use Rattle.load_tokens.specs.declared.Token.{Token}
use Rattle.load_tokens.specs.Arrays.{between}
use Rattle.load_tokens.specs.Views.{starts, ends}

-- the text between where the i-th starts and where it ends
abbrev pub text_at : List ℕ → List ℕ → List ℕ → ℕ → List ℕ
text_at s starts ends i = between s (get_or starts i 0) (get_or ends i 0)

-- the text of the i-th of some tokens
abbrev pub text_of : List ℕ → List Token → ℕ → List ℕ
text_of s ts i = text_at s (starts ts) (ends ts) i

-- each of some names is the index of one of n tokens
abbrev pub AmongTokens : List ℕ → ℕ → Type 0
AmongTokens names n = (k : ℕ) → k < length names → get_or names k 0 < n
