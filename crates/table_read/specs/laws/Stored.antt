-- Where the words and the names of a table's records stand in the bytes.
use Rattle.std.specs.Prelude.{◌≡◌, refl, true, List, ℕ, ◌+◌, ◌-◌, ◌≤◌, ◌<◌, length, take, drop}
use Rattle.std.proofs.Common.{sym, ap, ap₂, ◌∙◌, arith}
use Rattle.spec_lists.specs.Runs.{Run}
use Rattle.spec_file.specs.Limit.{Section}
use Rattle.spec_table.specs.Layout.{width, header_bytes}
use Rattle.spec_table.specs.View.{view, strings_order, count_of, offset_of}
use Rattle.spec_table.specs.Check.{is_table, run_at, name_run}
use Rattle.spec_table.specs.Policy.{name, row}
use Rattle.spec_table.proofs.laws.Fields.{has_header, strings_inside, strings_count, string_at}
use Rattle.spec_table.proofs.laws.Standing.{stands, name_within}
use Rattle.spec_decision.specs.declared.Found.TheVariants.{Part}
use Rattle.spec_decision.specs.LookUp.{name_part}
use Rattle.table_fields.specs.Field.{Word, HasField}
use Rattle.table_fields.specs.declared.Section as coded
use Rattle.table_fields.specs.declared.Section.TheVariants.{UserGroups, HostGroups, Members, AccessGroups, Inputs, Rules, References}
use Rattle.table_read.specs.Stored.{section, name_word, Stored, word_of}

pub header_there : (b : List ℕ) → is_table b ≡ true → header_bytes ≤ length b
header_there b h = has_header b (stands b h).0

module _ (b : List ℕ) (s : Section) (i : ℕ) (h : Stored b s i) where
  pub has_field : (j : ℕ) → j < width s → HasField b s i j
  has_field j l = record { stand = (stands b h.table).0; row = h.inside; field = l }

  -- where a name begins and ends
  fits : (name_run s (row (view b) s i)).first + (name_run s (row (view b) s i)).count ≤ count_of b strings_order
  fits = rw (strings_count b (stands b h.table).0) at (name_within (view b) (stands b h.table).1 s i h.inside)

  pub name_ends :
      {o f n : ℕ} → Word (offset_of b strings_order) o → f ≡ (name_run s (row (view b) s i)).first → n ≡ (name_run s (row (view b) s i)).count
      → o + f + n ≤ length b
  name_ends o f n = omega (arith, fits, (strings_inside b (stands b h.table).0).ends, o.is)

  pub name_read :
      {o f n : ℕ} → Word (offset_of b strings_order) o → f ≡ (name_run s (row (view b) s i)).first → n ≡ (name_run s (row (view b) s i)).count
      → take (o + f + n - (o + f)) (drop (o + f) b) ≡ name (view b) s (row (view b) s i)
  name_read {o = x} {f = y} {n = z} o f n =
      let e : x + y + z - (x + y) ≡ z = omega arith in
      ap₂ (λ (x y : ℕ). take x (drop y b)) (e ∙ n) (ap₂ (λ (x y : ℕ). x + y) o.is f)
      ∙ sym (string_at b (stands b h.table).0 (name_run s (row (view b) s i)) fits)

-- where a name stands in a record
name_is : (k : coded.Section) (w : List ℕ) → name_run (section k) w ≡ run_at (name_word k) w
name_is UserGroups w = refl
name_is HostGroups w = refl
name_is Members w = refl
name_is AccessGroups w = refl
name_is Inputs w = refl
name_is Rules w = refl
name_is References w = refl

pub name_small : (k : coded.Section) → name_word k + 1 < width (section k)
name_small UserGroups = omega arith
name_small HostGroups = omega arith
name_small Members = omega arith
name_small AccessGroups = omega arith
name_small Inputs = omega arith
name_small Rules = omega arith
name_small References = omega arith

pub name_low : (k : coded.Section) → name_word k < 6
name_low UserGroups = omega arith
name_low HostGroups = omega arith
name_low Members = omega arith
name_low AccessGroups = omega arith
name_low Inputs = omega arith
name_low Rules = omega arith
name_low References = omega arith

-- the words of a name
pub name_first :
    (b : List ℕ) (k : coded.Section) (i : ℕ) {j r : ℕ} → j ≡ name_word k → Word (word_of b (section k) i j) r
    → r ≡ (name_run (section k) (row (view b) (section k) i)).first
name_first b k i e r = r.is ∙ ap (word_of b (section k) i) e ∙ ap (λ (q : Run). q.first) (sym (name_is k (row (view b) (section k) i)))

pub name_count :
    (b : List ℕ) (k : coded.Section) (i : ℕ) {j r : ℕ} → j ≡ name_word k → Word (word_of b (section k) i (j + 1)) r
    → r ≡ (name_run (section k) (row (view b) (section k) i)).count
name_count b k i e r = r.is ∙ ap (λ (x : ℕ). word_of b (section k) i (x + 1)) e ∙ ap (λ (q : Run). q.count) (sym (name_is k (row (view b) (section k) i)))

pub part_read :
    (b : List ℕ) (s : Section) (i : ℕ) {o f n : ℕ} → Word (offset_of b strings_order) o → f ≡ (name_run s (row (view b) s i)).first
    → n ≡ (name_run s (row (view b) s i)).count
    → Part (o + f) n ≡ name_part s b (row (view b) s i)
part_read b s i o f n = ap₂ (λ (x y : ℕ). Part x y) (ap₂ (λ (x y : ℕ). x + y) o.is f) n
