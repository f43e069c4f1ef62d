-- The tokens of a file, as they are written for.
use Rattle.std.specs.Prelude.{List, ℕ, length}
use Rattle.spec_grammar.specs.Sentence.{Tagged}
use Rattle.load_tokens.specs.Views.{starts, ends}
use Rattle.load_spans.specs.declared.Tokens.{Tokens}
use Rattle.load_flags.specs.Tokens.{part, texts_at}
use Rattle.load_passes.specs.declared.source.Source.{Source}

-- from one index up to another
abbrev pub part_of : Tokens → ℕ → ℕ → List Tagged
part_of t from to = part t.text.now t.list.now from to

abbrev pub all_of : Tokens → List Tagged
all_of t = part_of t 0 (length t.list.now)

-- the texts of those with some indices
abbrev pub names_of : Tokens → List ℕ → List (List ℕ)
names_of t is = texts_at t.text.now (starts t.list.now) (ends t.list.now) is

-- the names of the groups, by whose order references are numbered
abbrev pub user_names : Source → List (List ℕ)
user_names s = names_of s.tokens s.uags.now

abbrev pub host_names : Source → List (List ℕ)
host_names s = names_of s.tokens s.hags.now
