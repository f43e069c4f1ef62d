-- What the functions that write for one token ask and promise. The token is the i-th of a file's tokens.
use Rattle.std.specs.Prelude.{List, ℕ, ◌<◌, ◌≤◌, ◌+◌, length}
use Rattle.spec_grammar.specs.declared.Role.{Role}
use Rattle.spec_grammar.specs.Codes.{role_number}
use Rattle.load_tokens.specs.Arrays.{tagged_at}
use Rattle.load_tokens.specs.Views.{starts, ends, roles}
use Rattle.load_spans.specs.declared.Tokens.{Tokens}
use Rattle.load_spans.specs.Roles.{RoleCode, arrays}
use Rattle.load_flags.specs.Tokens.{part, texts_at}
use Rattle.load_records.specs.declared.Cursor.{Cursor}
use Rattle.load_records.specs.Work.{Work}
use Rattle.load_records.specs.Cursor.{Bounded, Emitted, cursor, cursor_limit}
use Rattle.load_records.specs.Record.{emit, move}

-- q: the token's role; m: that of what belongs to it; to: where the part ends
pub record Ready (t : Tokens) (i to : ℕ) (q m : Role) (p : Cursor) : Type 0 where
  pub within : to ≤ length t.list.now
  pub here : i < to
  pub head : RoleCode (role_number q)
  pub part : RoleCode (role_number m)
  pub bounded : Bounded cursor_limit p

-- the token is written for, and the cursor moved; names: the tokens by whose texts references are numbered
abbrev pub Step : Work → Role → Role → List ℕ → Tokens → ℕ → ℕ → List ℕ → List ℕ → Cursor → Cursor → Type 0
Step w q m names t i to b c p r =
    let x = tagged_at t.text.now (arrays (starts t.list.now) (ends t.list.now)) (roles t.list.now) i in
    let xs = part t.text.now t.list.now (i + 1) to in
    let ns = texts_at t.text.now (starts t.list.now) (ends t.list.now) names in
    Emitted b c p (emit q m ns w x xs p) (move q m ns w x xs p) r

-- the string t is written
abbrev pub StringPut : List ℕ → List ℕ → List ℕ → Cursor → Cursor → Type 0
StringPut t b c p r = Emitted b c p t (cursor (p.at + length t) (p.string + 0) (p.first + 0) (p.second + 0)) r
