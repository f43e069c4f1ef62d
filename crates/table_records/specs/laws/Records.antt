-- Laws of what is asked of each record.
use Rattle.std.specs.Prelude.{◌≡◌, Bool, true, not, ◌&&◌, ◌||◌, List, [], ℕ, ◌+◌, ◌-◌, ◌≤◌, min, leb, length, take, drop, get_or}
use Rattle.std.specs.List.{list_all, range_with_len}
use Rattle.std.proofs.Common.{sym, ap, ap₂, ◌∙◌, arith, leb-true}
use Rattle.std.proofs.Math.Nat.{add-sub_cancel_left}
use Rattle.spec_lists.specs.Select.{all, missing}
use Rattle.spec_lists.proofs.laws.Both.{both}
use Rattle.spec_lists.specs.Runs.{part}
use Rattle.spec_calc.specs.Reader.{tree_of}
use Rattle.spec_file.specs.Limit.{Section, order, user_groups, host_groups, references, longest_calculation}
use Rattle.spec_table.specs.View.{strings_order, count_of, offset_of, view}
use Rattle.spec_table.specs.Check.{run_at, sections_stand, string_fits, no_calculation, calculation_run, calculation_stands, numbers_fit, flags_field}
use Rattle.spec_table.specs.Check.{flags_stand, rule_stands}
use Rattle.spec_table.proofs.laws.Fields.{view_count, strings_count, strings_inside, string_at}
use Rattle.spec_table.specs.Policy.{row}
use Rattle.table_records.specs.Records.{number_stands}
use Rattle.table_runs.specs.laws.All.{all_below, part_front}

module _ (b : List ℕ) (h : sections_stand b ≡ true) where
  -- a string by the words that say where it stands
  pub string_is :
      (row : List ℕ) (j longest : ℕ) {f l n : ℕ} → f ≡ get_or row j 0 → l ≡ get_or row (j + 1) 0 → n ≡ count_of b strings_order
      → string_fits (view b) longest (run_at j row) ≡ leb (f + l) n && leb l longest
  string_is row j longest p q s =
      ap₂ ◌&&◌ (ap₂ leb (ap₂ ◌+◌ (sym p) (sym q)) (strings_count b h ∙ sym s)) (ap (λ (k : ℕ). leb k longest) (sym q))

  module _ (row : List ℕ) {f l : ℕ} (p : f ≡ get_or row 5 0) (q : l ≡ get_or row 6 0) where
    -- a calculation that fits lies within the bytes
    fits_inside : string_fits (view b) longest_calculation (calculation_run row) ≡ true → f + l ≤ count_of b strings_order
    fits_inside e =
        omega (
          arith,
          leb-true
              (get_or row 5 0 + get_or row 6 0)
              (length (view b).strings)
              (both (leb (get_or row 5 0 + get_or row 6 0) (length (view b).strings)) (leb (get_or row 6 0) longest_calculation) e).0,
          strings_count b h,
        )

    pub calculation_inside :
        {s : Bool} {o : ℕ} → s ≡ string_fits (view b) longest_calculation (calculation_run row) → s ≡ true → o ≡ offset_of b strings_order
        → o + f + l ≤ length b
    calculation_inside r t e = omega (arith, fits_inside (sym r ∙ t), (strings_inside b h).ends)

    pub calculation_bytes :
        {s : Bool} {o : ℕ} → s ≡ string_fits (view b) longest_calculation (calculation_run row) → s ≡ true → o ≡ offset_of b strings_order
        → take (o + f + l - (o + f)) (drop (o + f) b) ≡ part (calculation_run row) (view b).strings
    calculation_bytes {o = o} r t e =
        ap (λ (k : ℕ). take k (drop (o + f) b)) (add-sub_cancel_left (o + f) l)
        ∙ ap₂ (λ (k m : ℕ). take k (drop m b)) q (ap₂ ◌+◌ e p)
        ∙ sym (string_at b h (calculation_run row) (omega (arith, fits_inside (sym r ∙ t))))

    pub calculation_is :
        {n s a : Bool} → n ≡ no_calculation (record { first = f; count = l }) → s ≡ string_fits (view b) longest_calculation (calculation_run row)
        → a ≡ not (missing (tree_of (part (calculation_run row) (view b).strings)))
        → calculation_stands (view b) (calculation_run row) ≡ n || s && a
    calculation_is x y z =
        sym (ap₂ ◌||◌ (x ∙ ap₂ (λ (u v : ℕ). no_calculation (record { first = u; count = v })) p q) (ap₂ ◌&&◌ y z))

-- the numbers of a run of references
pub numbers_are :
    (b : List ℕ) (of : Section) (first count : ℕ) {c g n : ℕ} → c ≡ count_of b (order references) → g ≡ count_of b (order of)
    → n ≡ min c (first + count) - first
    → list_all (λ i. number_stands g (row (view b) references i)) (range_with_len first n) ≡ numbers_fit (view b) of (record { first = first; count = count })
numbers_are b of f l {n = n} p q e =
    let rows = (view b).records references in
    let c = view_count b references in
    ap (λ (k : ℕ). list_all (λ i. number_stands k (row (view b) references i)) (range_with_len f n)) (q ∙ sym (view_count b of))
    ∙ all_below (number_stands (length ((view b).records of))) [] rows (f + l) f n (omega arith)
    ∙ sym (ap (all (number_stands (length ((view b).records of)))) (part_front l f rows))

pub rule_is :
    (b row : List ℕ) {f u v w z : ℕ} {s k m n : Bool} → f ≡ flags_field row → s ≡ flags_stand f → k ≡ calculation_stands (view b) (calculation_run row)
    → u ≡ get_or row 1 0 → v ≡ get_or row 2 0 → m ≡ numbers_fit (view b) user_groups (record { first = u; count = v })
    → w ≡ get_or row 3 0 → z ≡ get_or row 4 0 → n ≡ numbers_fit (view b) host_groups (record { first = w; count = z })
    → rule_stands (view b) row ≡ s && (k && (m && n))
rule_is b row a x y c d p e g q =
    sym
    (ap₂
    ◌&&◌
    (x ∙ ap flags_stand a)
    (ap₂
    ◌&&◌
    y
    (ap₂
    ◌&&◌
    (p ∙ ap₂ (λ (u v : ℕ). numbers_fit (view b) user_groups (record { first = u; count = v })) c d)
    (q ∙ ap₂ (λ (u v : ℕ). numbers_fit (view b) host_groups (record { first = u; count = v })) e g))))
