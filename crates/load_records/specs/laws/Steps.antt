-- A step, where roles stand as numbers, as they do in laws of kept tokens.
use Rattle.std.specs.Prelude.{cond, List, [], ◌∷◌, ◌≡◌, ℕ, ◌+◌, ◌-◌, ◌≤◌, ltb, length}
use Rattle.spec_grammar.specs.declared.Role.{Role}
use Rattle.spec_grammar.specs.Codes.{role_number}
use Rattle.spec_file.specs.Contents.{until, texts, head_of}
use Rattle.spec_table.specs.Written.{calculation_words}
use Rattle.load_tokens.specs.Arrays.{role_of_number, tagged_at}
use Rattle.load_tokens.specs.laws.Arrays.{role_back}
use Rattle.load_tokens.specs.Views.{starts, ends, roles}
use Rattle.load_spans.specs.declared.Tokens.{Tokens}
use Rattle.load_spans.specs.Roles.{RoleCode, SpansFit, arrays, gap, tally}
use Rattle.load_spans.specs.laws.Roles.{spans_fit_less}
use Rattle.load_spans.specs.laws.Tokens.{fits}
use Rattle.load_flags.specs.Tokens.{cut, first_text, part, size, texts_at, tokens_in}
use Rattle.load_records.specs.declared.Cursor.{Cursor}
use Rattle.load_records.specs.Work.{Work}
use Rattle.load_records.specs.Cursor.{Emitted}
use Rattle.load_records.specs.Record.{emit, move}
use Rattle.load_records.specs.Step.{Ready, Step}
use Rattle.load_records.specs.laws.Rules.{calculation_is}
use Rattle.load_records.specs.laws.Tokens.{counted_cut, counted_until, cut_is, first_short, tokens_short}

abbrev pub StepAt : Work → ℕ → ℕ → List ℕ → List ℕ → List ℕ → List ℕ → List ℕ → ℕ → ℕ → List ℕ → List ℕ → Cursor → Cursor → Type 0
StepAt w q m names s starts ends roles i to b c p r =
    let x = tagged_at s (arrays starts ends) roles i in
    let xs = tokens_in s starts ends roles (i + 1) to in
    let ns = texts_at s starts ends names in
    Emitted b c p (emit (role_of_number q) (role_of_number m) ns w x xs p) (move (role_of_number q) (role_of_number m) ns w x xs p) r

pub step_at :
    (w : Work) (q m : Role) (names : List ℕ) (t : Tokens) (i to : ℕ) {b c : List ℕ} {p r : Cursor} → Step w q m names t i to b c p r
    → StepAt w (role_number q) (role_number m) names t.text.now (starts t.list.now) (ends t.list.now) (roles t.list.now) i to b c p r
step_at w q m names t i to d = rw (role_back q, role_back m) d

-- the texts of a part lie in the file
pub ready_spans :
    {t : Tokens} {i to : ℕ} {q m : Role} {p : Cursor} → Ready t i to q m p
    → SpansFit t.text.now (starts t.list.now) (ends t.list.now) (roles t.list.now) to
ready_spans {t} h = spans_fit_less h.within (fits t)

-- ---- what belongs to a token: from the i-th on, up to e

module _ (t : Tokens) (q m : Role) (i to e : ℕ) (tq : RoleCode (role_number q)) (tm : RoleCode (role_number m)) where
  -- up to the next of its own role
  pub count_until :
      (k : ℕ) → e ≡ i + gap (role_number q) (role_number q) (roles t.list.now) i (to - i) → k ≡ tally (role_number m) (roles t.list.now) i (e - i)
      → k ≡ size m (until q (part t.text.now t.list.now i to))
  count_until k h c =
      let ts = t.list.now in
      rw (role_back q, role_back m)
      at (counted_until t.text.now (arrays (starts ts) (ends ts)) (roles ts) (role_number q) (role_number m) i to e tq tm k h c)

  -- up to the next of its own role or the next access group
  pub cut_part : e ≡ i + gap (role_number q) 5 (roles t.list.now) i (to - i) → cut q (part t.text.now t.list.now i to) ≡ part t.text.now t.list.now i e
  cut_part h =
      let ts = t.list.now in
      rw (role_back q) at (cut_is t.text.now (arrays (starts ts) (ends ts)) (roles ts) (role_number q) (role_number m) i to e tq tm h)

  pub count_cut :
      (k : ℕ) → e ≡ i + gap (role_number q) 5 (roles t.list.now) i (to - i) → k ≡ tally (role_number m) (roles t.list.now) i (e - i)
      → k ≡ size m (cut q (part t.text.now t.list.now i to))
  count_cut k h c =
      let ts = t.list.now in
      rw (role_back q, role_back m)
      at (counted_cut t.text.now (arrays (starts ts) (ends ts)) (roles ts) (role_number q) (role_number m) i to e tq tm k h c)

  pub calculation_at :
      (j o len : ℕ) → e ≡ i + gap (role_number q) 5 (roles t.list.now) i (to - i)
      → j ≡ i + gap (role_number m) (role_number m) (roles t.list.now) i (e - i)
      → len ≡ length (first_text m (cut q (part t.text.now t.list.now i to)))
      → cond (ltb j e) o 0 ∷ len ∷ []
      ≡ calculation_words
      (head_of (texts m (cut q (part t.text.now t.list.now i to))))
      (record { first = o; count = length (first_text m (cut q (part t.text.now t.list.now i to))) })
  calculation_at j o len h g l =
      let ts = t.list.now in
      rw (role_back q, role_back m)
      at (calculation_is t.text.now (arrays (starts ts) (ends ts)) (roles ts) (role_number q) (role_number m) i to e j o len tq tm h g
      (rw (role_back q, role_back m) l))

  -- the first text is no longer than a file
  pub first_text_short : length (first_text m (part t.text.now t.list.now i e)) ≤ 16384
  first_text_short =
      let ts = t.list.now in
      first_short m (tokens_short t.text.now (arrays (starts ts) (ends ts)) (roles ts) i (e - i) t.short)
