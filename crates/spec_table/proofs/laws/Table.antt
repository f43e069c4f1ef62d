-- The check finds exactly the tables.
use Rattle.std.specs.Prelude.{◌≡◌, refl, Bool, true, false, not, ◌&&◌, ◌||◌, List, ◌↔◌, ℕ}
use Rattle.std.proofs.lemmas.Bool.{false≢true}
use Rattle.std.proofs.Common.{inl, inr}
use Rattle.std.proofs.Math.Option.{Option, none, some}
use Rattle.spec_lists.specs.Select.{all, missing}
use Rattle.spec_lists.specs.Runs.{Run, part}
use Rattle.spec_lists.specs.Every.{Every, nil, cons}
use Rattle.spec_lists.proofs.laws.Both.{both}
use Rattle.spec_lists.proofs.laws.Every.{every_all, every_implies, all_every}
use Rattle.spec_calc.specs.Expression.{Tree}
use Rattle.spec_calc.specs.Reader.{tree_of}
use Rattle.spec_calc.proofs.laws.Theorem.{parses_sound, parses_complete}
use Rattle.spec_file.specs.Limit.{user_groups, host_groups, rules, longest_calculation}
use Rattle.spec_table.specs.Layout.{Content}
use Rattle.spec_table.specs.View.{view}
use Rattle.spec_table.specs.Table.{Table, CalculationStands, sections_stand, counts_fit, runs_stand, names_fit, letters_stand, string_fits, no_calculation}
use Rattle.spec_table.specs.Table.{numbers_fit, flags_stand, flags_field, calculation_run, users_run, hosts_run}
use Rattle.spec_table.specs.Check.{calculation_stands, rule_stands, well_formed, is_table}

module _ (c : Content) where
  calculation_sound : (r : Run) → calculation_stands c r ≡ true → CalculationStands c r
  calculation_sound r e = go (no_calculation r) refl e
    where
      read :
          (o : Option Tree) → tree_of (part r c.strings) ≡ o → string_fits c longest_calculation r ≡ true → not (missing o) ≡ true → CalculationStands c r
      read none h f m = absurd (false≢true m)
      read (some t) h f m = inr (t, f, parses_sound (part r c.strings) t h)

      go :
          (b : Bool) → no_calculation r ≡ b
          → b || string_fits c longest_calculation r && not (missing (tree_of (part r c.strings))) ≡ true
          → CalculationStands c r
      go true h f = inl h
      go false h f =
          let w = both (string_fits c longest_calculation r) (not (missing (tree_of (part r c.strings)))) f in
          read (tree_of (part r c.strings)) refl w.0 w.1

  calculation_complete : (r : Run) → CalculationStands c r → calculation_stands c r ≡ true
  calculation_complete r (inl h) = rw h
  calculation_complete r (inr t) = go (no_calculation r)
    where
      go : (b : Bool) → b || string_fits c longest_calculation r && not (missing (tree_of (part r c.strings))) ≡ true
      go true = refl
      go false = rw (t.1, parses_complete (part r c.strings) t.0 t.2)

  -- what is asked of one rule's record
  abbrev RuleStands : List ℕ → Type 0
  RuleStands row =
      (flags_stand (flags_field row) ≡ true)
      × CalculationStands c (calculation_run row)
      × (numbers_fit c user_groups (users_run row) ≡ true)
      × (numbers_fit c host_groups (hosts_run row) ≡ true)

  rule_sound : (row : List ℕ) → rule_stands c row ≡ true → RuleStands row
  rule_sound row e =
      let f = flags_stand (flags_field row) in
      let k = calculation_stands c (calculation_run row) in
      let u = numbers_fit c user_groups (users_run row) in
      let h = numbers_fit c host_groups (hosts_run row) in
      let x = both f (k && (u && h)) e in
      let y = both k (u && h) x.1 in
      let z = both u h y.1 in
      (x.0, calculation_sound (calculation_run row) y.0, z.0, z.1)

  rules_complete :
      {rows : List (List ℕ)} → Every (λ row. flags_stand (flags_field row) ≡ true) rows → Every (λ row. CalculationStands c (calculation_run row)) rows
      → Every (λ row. numbers_fit c user_groups (users_run row) ≡ true) rows → Every (λ row. numbers_fit c host_groups (hosts_run row) ≡ true) rows
      → Every (λ row. rule_stands c row ≡ true) rows
  rules_complete nil nil nil nil = nil
  rules_complete (cons {x = row} f fs) (cons k ks) (cons u us) (cons h hs) =
      cons {x = row} (rw (f, calculation_complete (calculation_run row) k, u, h)) (rules_complete fs ks us hs)

table_sound : (b : List ℕ) → is_table b ≡ true → Table b
unfolding is_table
table_sound b e =
    let c = view b in
    let rs = all (rule_stands c) (c.records rules) in
    let v = both (sections_stand b) (well_formed c) e in
    let w = both (counts_fit c) (runs_stand c && (names_fit c && (letters_stand c && rs))) v.1 in
    let x = both (runs_stand c) (names_fit c && (letters_stand c && rs)) w.1 in
    let y = both (names_fit c) (letters_stand c && rs) x.1 in
    let z = both (letters_stand c) rs y.1 in
    let each = every_implies (rule_sound c) (all_every (rule_stands c) (c.records rules) z.1) in
    record {
      sections = v.0;
      runs = x.0;
      counts = w.0;
      names = y.0;
      users = every_implies (λ row h. h.2) each;
      hosts = every_implies (λ row h. h.3) each;
      letters = z.0;
      flags = every_implies (λ row h. h.0) each;
      calculations = every_implies (λ row h. h.1) each;
    }

table_complete : (b : List ℕ) → Table b → is_table b ≡ true
unfolding is_table
table_complete b t =
    let each = every_all (rule_stands (view b)) (rules_complete (view b) t.flags t.calculations t.users t.hosts) in
    rw (t.sections, t.counts, t.runs, t.names, t.letters, each)

pub table_is : (b : List ℕ) → (is_table b ≡ true) ↔ Table b
table_is b = (table_sound b, table_complete b)
