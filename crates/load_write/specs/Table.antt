-- What a write answers, and what it leaves in the lent bytes.
use Rattle.std.specs.Prelude.{cond, List, ◌++◌, ◌≡◌, ℕ, leb, length, drop, Result, Ok, Err}
use Rattle.load_tokens.specs.Views.{starts, ends, roles}
use Rattle.load_flags.specs.Tokens.{texts_at, tokens_in}
use Rattle.load_passes.specs.declared.source.Source.{Source}
use Rattle.load_write.specs.Passes.{whole_table}

-- the bytes that are to be written for kept tokens
unfoldable pub stored_table : List ℕ → List ℕ → List ℕ → List ℕ → ℕ → List ℕ → List ℕ → List ℕ
stored_table s starts ends roles n uags hags =
    whole_table (texts_at s starts ends uags) (texts_at s starts ends hags) (tokens_in s starts ends roles 0 n)

abbrev pub source_table : Source → List ℕ
source_table s =
    let t = s.tokens in
    stored_table t.text.now (starts t.list.now) (ends t.list.now) (roles t.list.now) (length t.list.now) s.uags.now s.hags.now

-- t: what is to be written; lent: the bytes before; the length is the table's, written or without room
abbrev pub answer : List ℕ → List ℕ → Result ℕ ℕ
answer t lent = cond (leb (length t) (length lent)) (Ok (length t)) (Err (length t))

abbrev pub left : List ℕ → List ℕ → List ℕ
left t lent = cond (leb (length t) (length lent)) (t ++ drop (length t) lent) lent

-- c: the bytes afterwards
pub record Wrote (t lent c : List ℕ) (r : Result ℕ ℕ) : Type 0 where
  pub answered : r ≡ answer t lent
  pub leaves : c ≡ left t lent
