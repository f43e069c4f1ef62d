-- The table of an accepted file in the lent bytes.
use Rattle.std.specs.Prelude.{◌≡◌, List, ℕ, ◌≤◌, length}
use Rattle.load_tokens.specs.Arrays.{tagged_from}
use Rattle.load_tokens.specs.Views.{kept, starts, ends, roles}
use Rattle.load_spans.specs.declared.Tokens.{Tokens}
use Rattle.spec_file.specs.Load.{accept}
use Rattle.spec_table.specs.Layout.{greatest_table}
use Rattle.load_spans.specs.Listed.{indices}
use Rattle.spec_load.specs.declared.Loaded.{Loaded}
use Rattle.spec_load.specs.Load.{by_verdict}
use Rattle.load_write.specs.Table.{stored_table}

-- their table is no longer than the greatest
abbrev pub Fits : Tokens → Type 0
Fits t =
    let rs = roles t.list.now in
    let n = length t.list.now in
    length (stored_table t.text.now (starts t.list.now) (ends t.list.now) rs n (indices 1 rs 0 n) (indices 3 rs 0 n)) ≤ greatest_table

-- what a load of these tokens answers, and what it makes of the lent bytes
abbrev pub Stored : Tokens → List ℕ → List ℕ → Loaded → Type 0
Stored t lent after r =
    record { answer = r; bytes = after } ≡ by_verdict lent (accept (tagged_from t.text.now (kept t.list.now) (roles t.list.now) 0 (length t.list.now)))
