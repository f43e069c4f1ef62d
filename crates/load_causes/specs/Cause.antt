-- The verdict on a file's tokens by the causes.
use Rattle.std.specs.Prelude.{◌≡◌, List, ℕ, length, get_or, Option, Some, None, Result, Ok, Err}
use Rattle.spec_grammar.specs.Sentence.{Tagged}
use Rattle.spec_file.specs.declared.Refusal.{Refusal}
use Rattle.spec_file.specs.Refusal.{contexts}
use Rattle.spec_file.specs.Load.{Verdict, refuse, accept, causes, refused_by, by_causes}
use Rattle.load_tokens.specs.declared.Token.{Token}
use Rattle.load_tokens.specs.Arrays.{tagged_from}
use Rattle.load_tokens.specs.Views.{roles, kept, blank}

-- a refusal, if a token was found, at its place
abbrev pub refusal_at : List Token → Refusal → Option ℕ → Result (Unit {0}) (Refusal × ℕ)
refusal_at ts k None = Ok tt
refusal_at ts k (Some i) = Err (k, (get_or ts i blank).place)

-- the verdict that an answer stands for, on tokens that are read
abbrev pub verdict_of : List Tagged → Result (Unit {0}) (Refusal × ℕ) → Verdict
verdict_of xs (Ok u) = accept xs
verdict_of xs (Err e) = refuse e.0 e.1

-- what a file's tokens say
abbrev pub said : List ℕ → List Token → List Tagged
said s ts = tagged_from s (kept ts) (roles ts) 0 (length ts)

-- the answer is the verdict by the causes
pub record JudgedTokens (s : List ℕ) (ts : List Token) (r : Result (Unit {0}) (Refusal × ℕ)) : Type 0 where
  pub same : by_causes (said s ts) (refused_by causes (contexts (said s ts))) ≡ verdict_of (said s ts) r
