-- What the pass over the braces answers, for every text whose tokens these are.
use Rattle.std.specs.Prelude.{◌≡◌, List, ℕ, length, Option, Some, None}
use Rattle.std.proofs.Math.Option as maybe
use Rattle.spec_file.specs.Depth.{too_deep}
use Rattle.load_tokens.specs.declared.Token.{Token}
use Rattle.load_tokens.specs.Arrays.{tokens_from}
use Rattle.load_tokens.specs.Views.{kept}

-- the place of the brace that is too deep
abbrev pub answer : maybe.Option ℕ → Option ℕ
answer maybe.none = None
answer (maybe.some p) = Some p

-- the pass over the tokens ts of a text s answers r
abbrev pub Finds : List ℕ → List Token → Option ℕ → Type 0
Finds s ts r = r ≡ answer (too_deep 0 (tokens_from s (kept ts) 0 (length ts)))
