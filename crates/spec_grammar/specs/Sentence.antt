-- What it is for tokens to be a file of the grammar, and where a text stops being the beginning of any file. No reader stands here.
use Rattle.std.specs.Prelude.{◌≡◌, List, [], ◌∷◌, ◌++◌, map, ℕ}
use Rattle.spec_token.specs.declared.Kind.{Kind}
use Rattle.spec_token.specs.Token.{Token}
use Rattle.spec_grammar.specs.declared.Role.{Role}
use Rattle.spec_grammar.specs.Production.{Sign, ◌tagged◌, AcfFile}

-- a token with its role: what it is in its place
pub record Tagged : Type 0 where
  pub token : Token
  pub role : Role

abbrev pub sign : Tagged → Sign
sign x = x.token.kind tagged x.role

abbrev pub kind_of : Sign → Kind
kind_of (k tagged r) = k

abbrev pub kinds : List Token → List Kind
kinds = map (λ t. t.kind)

-- the tokens ts are a file of 001's grammar, and say xs in their places
pub record Reads (ts : List Token) (xs : List Tagged) : Type 0 where
  pub tokens : map (λ x. x.token) xs ≡ ts
  pub derived : AcfFile (map sign xs)

-- the kinds ks are a sentence of 001's grammar
pub record Sentence (ks : List Kind) : Type 0 where
  pub signs : List Sign
  pub spelled : map kind_of signs ≡ ks
  pub derived : AcfFile signs

-- a sentence begins with the kinds ks: they are a viable prefix
pub record Viable (ks : List Kind) : Type 0 where
  pub rest : List Kind
  pub sentence : Sentence (ks ++ rest)

-- 01, refusal 4: "first token that no well-formed file could have there; the file's length at its end". n is that length.
pub data Stops (ts : List Token) (n : ℕ) : ℕ → Type 0 where
  at_token :
      (before : List Token) (t : Token) (behind : List Token) → ts ≡ before ++ (t ∷ behind) → Viable (kinds before)
      → (Viable (kinds before ++ (t.kind ∷ [])) → ⊥) → Stops ts n t.place
  at_end : Viable (kinds ts) → (Sentence (kinds ts) → ⊥) → Stops ts n n
