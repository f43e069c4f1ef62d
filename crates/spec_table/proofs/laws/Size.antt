-- Every table, loaded or not, is at most 35,108 bytes.
use Rattle.std.specs.Prelude.{◌≡◌, true, ◌&&◌, List, [], ◌∷◌, map, ℕ, ◌+◌, ◌≤◌, eqb, leb, length}
use Rattle.std.proofs.Common.{arith, leb-true, eqb-true}
use Rattle.spec_lists.specs.Select.{all, total}
use Rattle.spec_lists.specs.Runs.{Run}
use Rattle.spec_lists.specs.Every.{Every, nil, cons}
use Rattle.spec_lists.proofs.laws.Both.{both}
use Rattle.spec_lists.proofs.laws.Every.{all_every}
use Rattle.spec_file.specs.Limit.{Section, user_groups, host_groups, members, access_groups, inputs, rules, references, most, most_bytes}
use Rattle.spec_table.specs.Layout.{sections, form, header_bytes, greatest_table}
use Rattle.spec_table.specs.View.{form_of, total_of, extents, view}
use Rattle.spec_table.specs.Table.{Table, in_turn}
use Rattle.spec_table.proofs.laws.Fields.{view_count, strings_count}

-- runs in turn from n up to e take up all between
in_turn_sum : (n e : ℕ) (rs : List Run) → in_turn n rs e ≡ true → e ≡ n + total (map (λ r. r.count) rs)
in_turn_sum n e [] h = omega (arith, eqb-true n e h)
in_turn_sum n e (r ∷ rs) h = omega (arith, in_turn_sum (n + r.count) e rs (both (eqb r.first n) (in_turn (n + r.count) rs e) h).1)

module _ (b : List ℕ) (t : Table b) where
  total_is : total_of b ≡ header_bytes + total (map (λ r. r.count) (extents b))
  total_is =
      let turn = in_turn header_bytes (extents b) (total_of b) in
      let x = both (leb header_bytes (length b)) (eqb (form_of b) form && (turn && leb (total_of b) (length b))) t.sections in
      let y = both (eqb (form_of b) form) (turn && leb (total_of b) (length b)) x.1 in
      in_turn_sum header_bytes (total_of b) (extents b) (both turn (leb (total_of b) (length b)) y.1).0

  -- 01: "No table exceeds 35,108 bytes."
  pub table_total : total_of b ≤ greatest_table
  table_total = go (all_every (λ s. leb (length ((view b).records s)) (most s)) sections counts.0)
    where
      counts : (all (λ s. leb (length ((view b).records s)) (most s)) sections ≡ true) × (leb (length (view b).strings) most_bytes ≡ true)
      counts = both (all (λ s. leb (length ((view b).records s)) (most s)) sections) (leb (length (view b).strings) most_bytes) t.counts

      at_most : (s : Section) → leb (length ((view b).records s)) (most s) ≡ true → length ((view b).records s) ≤ most s
      at_most s = leb-true (length ((view b).records s)) (most s)

      go : Every (λ s. leb (length ((view b).records s)) (most s) ≡ true) sections → total_of b ≤ greatest_table
      go (cons u (cons h (cons m (cons g (cons i (cons r (cons f nil))))))) =
          omega (
            arith,
            total_is,
            at_most user_groups u,
            view_count b user_groups,
            at_most host_groups h,
            view_count b host_groups,
            at_most members m,
            view_count b members,
            at_most access_groups g,
            view_count b access_groups,
            at_most inputs i,
            view_count b inputs,
            at_most rules r,
            view_count b rules,
            at_most references f,
            view_count b references,
            leb-true (length (view b).strings) most_bytes counts.1,
            strings_count b t.sections,
          )
