-- What a token's place means. 01: "a token's is its first byte, the quote if any", "the earliest place".
use Rattle.std.specs.Prelude.{◌≡◌, List, [], ◌∷◌, ◌++◌, ℕ, ◌<◌, length}
use Rattle.spec_lists.specs.Text.{bytes}
use Rattle.spec_lists.specs.Every.{Every}
use Rattle.spec_token.specs.declared.Kind.TheVariants.{String}
use Rattle.spec_token.specs.Token.{Token}

-- each number is less than all behind it
pub data Ascending : List ℕ → Type 0 where
  no_more : Ascending []
  less : {n : ℕ} {ns : List ℕ} → Every (λ m. n < m) ns → Ascending ns → Ascending (n ∷ ns)

-- the text of the token t stands at its place in the text s, or between quotes, the first of which is at its place
pub data StandsIn (s : List ℕ) (t : Token) : Type 0 where
  bare : (before behind : List ℕ) → s ≡ before ++ (t.text ++ behind) → length before ≡ t.place → StandsIn s t
  in_quotes :
      (before behind : List ℕ) → s ≡ before ++ (bytes "\"" ++ (t.text ++ (bytes "\"" ++ behind))) → length before ≡ t.place → t.kind ≡ String
      → StandsIn s t
