-- The kept tokens of a part of a file, and what belongs to one of them.
use Rattle.std.specs.Prelude.{cond, List, [], ◌∷◌, map, ℕ, ◌+◌, length}
use Rattle.std.proofs.Math.Option.{get_or}
use Rattle.spec_lists.specs.Text.{same}
use Rattle.spec_grammar.specs.declared.Role.{Role}
use Rattle.spec_grammar.specs.declared.Role.TheVariants.{AsgName}
use Rattle.spec_grammar.specs.Sentence.{Tagged}
use Rattle.spec_file.specs.Contents.{until, texts, head_of}
use Rattle.spec_table.specs.Check.{undefined_number}
use Rattle.load_tokens.specs.declared.Token.{Token}
use Rattle.load_tokens.specs.Views.{starts, ends, roles}
use Rattle.load_spans.specs.Spans.{text_at}
use Rattle.load_spans.specs.Roles.{arrays, tokens}

-- the tokens from one index up to another
abbrev pub tokens_in : List ℕ → List ℕ → List ℕ → List ℕ → ℕ → ℕ → List Tagged
tokens_in s starts ends roles from to = tokens s (arrays starts ends) roles from to

-- the same of a file's tokens
abbrev pub part : List ℕ → List Token → ℕ → ℕ → List Tagged
part s ts from to = tokens_in s (starts ts) (ends ts) (roles ts) from to

-- the texts of the tokens with some indices
abbrev pub texts_at : List ℕ → List ℕ → List ℕ → List ℕ → List (List ℕ)
texts_at s starts ends is = map (text_at s starts ends) is

-- up to the next that says q, or the next access group
abbrev pub cut : Role → List Tagged → List Tagged
cut q xs = until q (until AsgName xs)

-- how many say m
abbrev pub size : Role → List Tagged → ℕ
size m xs = length (texts m xs)

-- the first text of a role, or the empty one
abbrev pub first_text : Role → List Tagged → List ℕ
first_text m xs = get_or (head_of (texts m xs)) []

-- the number of the first of some names that is s, k being that of the first of them, or 65,535
abbrev pub numbered : ℕ → List ℕ → List (List ℕ) → ℕ
numbered k s [] = undefined_number
numbered k s (n ∷ ns) = cond (same n s) k (numbered (k + 1) s ns)

-- the number of the group that the i-th token names
abbrev pub number_at : List ℕ → List ℕ → List ℕ → List ℕ → ℕ → ℕ
number_at s starts ends names i = numbered 0 (text_at s starts ends i) (texts_at s starts ends names)
