-- Passes over a file's tokens, from those where roles stand as numbers.
use Rattle.std.specs.Prelude.{List, ℕ, ◌≤◌, length}
use Rattle.spec_grammar.specs.declared.Role.{Role}
use Rattle.spec_grammar.specs.Codes.{role_number}
use Rattle.load_tokens.specs.laws.Arrays.{role_back}
use Rattle.load_tokens.specs.Views.{starts, ends, roles}
use Rattle.load_spans.specs.declared.Tokens.{Tokens}
use Rattle.load_spans.specs.laws.Roles.{spans_fit_less}
use Rattle.load_spans.specs.laws.Tokens.{fits}
use Rattle.load_records.specs.declared.Cursor.{Cursor}
use Rattle.load_records.specs.Work.{Work}
use Rattle.load_records.specs.Cursor.{Emitted}
use Rattle.load_passes.specs.Pass.{emits, moves}
use Rattle.load_passes.specs.Passed.{Passed}
use Rattle.load_passes.specs.Source.{names_of, part_of}
use Rattle.load_passes.specs.laws.Bounds.{bounded_on, bounded_tokens}
use Rattle.load_passes.specs.laws.Loops.{PassedAt}

pub passed :
    (w : Work) (q m : Role) (names : List ℕ) (t : Tokens) (from to : ℕ) {b c : List ℕ} {p r : Cursor} → to ≤ length t.list.now
    → PassedAt w (role_number q) (role_number m) names t.text.now (starts t.list.now) (ends t.list.now) (roles t.list.now) from to b c p r
    → Passed w q m names t from to b c p r
passed w q m names t from to {b} {c} {p} {r} h d =
    let e : Emitted b c p (emits q m (names_of t names) w (part_of t from to) p) (moves q m (names_of t names) w (part_of t from to) p) r = rw (role_back q, role_back m) at d in
    record { emitted = e; bounded = λ k n. bounded_on e (bounded_tokens (spans_fit_less h (fits t)) q m (names_of t names) w from n) }
