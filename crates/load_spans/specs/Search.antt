-- The first token of a file to which a cause applies. The tokens stand in arrays; a cause looks at their texts and roles alone.
use Rattle.std.specs.Prelude.{Bool, true, false, MatchOption, ◌<◌, cond, List, [], ℕ, min, ltb, length, Option, Some, None}
use Rattle.load_tokens.specs.declared.Token.{Token}
use Rattle.load_tokens.specs.Views.{starts, ends, roles}
use Rattle.spec_file.specs.Refusal.{Context}
use Rattle.load_spans.specs.Roles.{arrays, tokens}
use Rattle.load_spans.specs.Seek.{seek, context_at}

module _ (p : Context → Bool) (s starts ends roles : List ℕ) (n : ℕ) where
  -- the first of n tokens to which p applies, n if there is none
  abbrev pub first_of : ℕ
  first_of = seek p [] (tokens s (arrays starts ends) roles 0 n)

  -- p applies to the i-th of them
  abbrev pub applies_at : ℕ → Bool
  applies_at i = p (context_at s (arrays starts ends) roles n i)

-- k, if it is below n
abbrev pub below : ℕ → ℕ → Option ℕ
below n k = cond (ltb k n) (Some k) None

-- the earlier of two tokens, either of which may be missing
abbrev pub earlier_of : Option ℕ → Option ℕ → Option ℕ
earlier_of None b = b
earlier_of (Some i) None = Some i
earlier_of (Some i) (Some j) = Some (min i j)

-- the first of a file's tokens to which p applies
abbrev pub first_in : (Context → Bool) → List ℕ → List Token → Option ℕ
first_in p s ts = below (length ts) (first_of p s (starts ts) (ends ts) (roles ts) (length ts))

-- p applies to the i-th of them
abbrev pub applies_in : (Context → Bool) → List ℕ → List Token → ℕ → Bool
applies_in p s ts i = applies_at p s (starts ts) (ends ts) (roles ts) (length ts) i

-- r is the first number below n at which a test answers true, R i b saying that it may answer b at i
pub record Found (R : ℕ → Bool → Type 0) (n : ℕ) (r : Option ℕ) : Type 0 where
  pub is : MatchOption r ((i : ℕ) → i < n → R i false) (λ k. (k < n) × R k true × ((i : ℕ) → i < k → R i false))
