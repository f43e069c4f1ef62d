-- A list of names, name by name.
use Rattle.std.specs.Prelude.{◌≡◌, List, [], ◌∷◌, ◌++◌, map, ℕ, suc, ◌+◌, ◌-◌, ◌≤◌, ◌<◌, length, take, drop, get_or}
use Rattle.std.specs.declared.ops.Range.{Range}
use Rattle.std.proofs.Common.{ap, ap₂, arith}
use Rattle.std.proofs.lemmas.List.{length-map}
use Rattle.spec_lists.specs.Text.{bytes}
use Rattle.spec_lists.specs.Runs.{Run, part}
use Rattle.spec_lists.proofs.laws.Runs.{Within}
use Rattle.spec_rule.proofs.laws.Walk.{list_on, part_count}
use Rattle.spec_file.specs.Limit.{Section, most}
use Rattle.spec_table.specs.Layout.{Content}
use Rattle.spec_table.specs.View.{view}
use Rattle.spec_table.specs.Policy.{name, row}
use Rattle.spec_table.proofs.laws.Bytes.{each}
use Rattle.spec_table.proofs.laws.Standing.{stands, records_few}
use Rattle.spec_text.specs.Lines.{quoted}
use Rattle.text_marks.specs.Names.{run, RunStored, names, listed, others}

most_low : (s : Section) → most s < 65536
most_low =
    each (λ s. most s < 65536) (omega arith) (omega arith) (omega arith) (omega arith) (omega arith) (omega arith) (omega arith)

-- the numbers of a run's records are words
pub run_low : {b : List ℕ} {s : Section} {r : Range ℕ} → RunStored b s r → r.end < 65536
run_low {b} {s} h = omega (arith, h.inside, records_few (view b) (stands b h.table).1 s, most_low s)

-- a range that the code has read is the run of a record
pub run_is : {r : Range ℕ} {v : Run} → r.start ≡ v.first → r.end ≡ v.first + v.count → run r ≡ v
run_is {r} {v} e f = let n : r.end - r.start ≡ v.count = omega arith in rw (n, e)

module _ (c : Content) (s : Section) (r : Run) where
  pub names_none : r.count ≡ 0 → names c s r ≡ []
  names_none z = ap (λ (k : ℕ). map (name c s) (take k (drop r.first (c.records s)))) z

  pub names_some : Within (length (c.records s)) r → (r.count ≡ 0 → ⊥) → names c s r ≡ [] → ⊥
  names_some h some z =
      some (omega (arith, part_count r (c.records s) h, length-map (part r (c.records s)) (name c s), ap length z))

-- one turn of a for loop over a range: its number, and the range that is left
abbrev pub Turn : Range ℕ → ℕ → Range ℕ → Type 0
Turn r i t = (t.end ≡ r.end) × ((0 < r.end - r.start) × (i ≡ r.start) × (t.start ≡ r.start + 1))

-- a run's first element, and the others
module _ {A : Type 0} (xs : List A) (d : A) (r : Range ℕ) where
  pub part_first :
      r.end ≤ length xs → r.start < r.end
      → part (run r) xs ≡ get_or xs r.start d ∷ part (run (record { start = r.start + 1; end = r.end })) xs
  part_first h l =
      let n : r.end - r.start ≡ suc (r.end - (r.start + 1)) = omega arith in
      ap₂ (λ (k : ℕ) (ys : List A). take k ys) n (list_on xs d r.start (omega arith))

  pub part_turn : {i : ℕ} {t : Range ℕ} → Turn r i t → r.end ≤ length xs → part (run r) xs ≡ get_or xs i d ∷ part (run t) xs
  part_turn s h = rw (s.1.1, s.1.2, s.0) (part_first h (omega (arith, s.1.0)))

module _ (c : Content) (s : Section) (r : Range ℕ) where
  names_first :
      r.end ≤ length (c.records s) → r.start < r.end
      → names c s (run r) ≡ name c s (row c s r.start) ∷ names c s (run (record { start = r.start + 1; end = r.end }))
  names_first h l = ap (map (name c s)) (part_first (c.records s) [] r h l)

  pub others_on :
      {i : ℕ} {t : Range ℕ} → Turn r i t → r.end ≤ length (c.records s)
      → others (names c s (run r)) ≡ bytes "," ++ (quoted (name c s (row c s i)) ++ others (names c s (run t)))
  others_on t h = ap (λ (xs : List (List ℕ)). others (map (name c s) xs)) (part_turn (c.records s) [] r t h)

  -- the first name, then the others
  pub listed_is :
      r.end ≤ length (c.records s) → r.start < r.end
      → listed (names c s (run r)) ≡ quoted (name c s (row c s r.start)) ++ others (names c s (run (record { start = r.start + 1; end = r.end })))
  listed_is h l = ap listed (names_first h l)
