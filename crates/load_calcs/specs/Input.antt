-- The letters that have an INP in the access group around a token.
use Rattle.std.specs.Prelude.{◌≡◌, Bool, false, ◌&&◌, List, ◌++◌, ℕ, ◌<◌, eqb, length, get_or}
use Rattle.spec_lists.specs.Select.{any}
use Rattle.spec_token.specs.Word.{link_letter}
use Rattle.spec_grammar.specs.declared.Role.TheVariants.{AsgName, Input}
use Rattle.spec_grammar.specs.Sentence.{Tagged}
use Rattle.load_tokens.specs.declared.Token.{Token}
use Rattle.load_tokens.specs.Arrays.{Arrays}
use Rattle.load_tokens.specs.Views.{starts, ends, roles}
use Rattle.spec_file.specs.Contents.{has_role, text, until}
use Rattle.load_spans.specs.Roles.{arrays, tokens}
use Rattle.load_spans.specs.Seek.{earlier}

-- a token is the INP of a letter
abbrev pub is_input : ℕ → Tagged → Bool
is_input l x = has_role Input x && eqb l (link_letter (text x))

-- which of the 21 letters have an INP among some tokens
pub record Gives (given : List Bool) (xs : List Tagged) : Type 0 where
  pub each : (l : ℕ) → l < 21 → get_or given l false ≡ any (is_input l) xs

module _ (s : List ℕ) (a : Arrays) (roles : List ℕ) (n : ℕ) where
  -- the tokens from the i-th on up to the next group's name
  abbrev pub ahead : ℕ → List Tagged
  ahead i = until AsgName (tokens s a roles i n)

  -- those before the i-th back to the last group's name, and those ahead
  abbrev pub around : ℕ → List Tagged
  around i = until AsgName (earlier s a roles i) ++ ahead i

-- the same of a file's tokens
abbrev pub ahead_of : List ℕ → List Token → ℕ → List Tagged
ahead_of s ts i = ahead s (arrays (starts ts) (ends ts)) (roles ts) (length ts) i

abbrev pub around_of : List ℕ → List Token → ℕ → List Tagged
around_of s ts i = around s (arrays (starts ts) (ends ts)) (roles ts) (length ts) i
