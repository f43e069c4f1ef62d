-- What holds of each record of a table: its name, its runs and its numbers lie in their sections.
use Rattle.std.specs.Prelude.{◌≡◌, refl, Bool, true, false, not, ◌&&◌, ◌||◌, List, [], ◌∷◌, ◌++◌, map, ◌⊎◌, ℕ, zero, suc, ◌+◌, ◌≤◌, ◌<◌, eqb, leb, ltb, length, get_or}
use Rattle.std.proofs.Common.{subst, ⊎_elim, inl, inr, arith, length-append, get_or-append-add, leb-true, ltb-true, eqb-true}
use Rattle.std.proofs.Math.ListN.{get_or-append}
use Rattle.std.proofs.lemmas.Bool.{not-true}
use Rattle.spec_lists.specs.Select.{all, joined, missing}
use Rattle.spec_lists.specs.Runs.{Run, part}
use Rattle.spec_lists.proofs.laws.Runs.{Within}
use Rattle.spec_lists.proofs.laws.Both.{both}
use Rattle.spec_calc.specs.Reader.{tree_of}
use Rattle.spec_rule.proofs.laws.Walk.{part_at, part_count}
use Rattle.spec_file.specs.Limit.{Section, user_groups, host_groups, members, access_groups, inputs, rules, references, most, most_bytes, longest_name}
use Rattle.spec_file.specs.Limit.{longest_calculation}
use Rattle.spec_table.specs.Layout.{Content, sections}
use Rattle.spec_table.specs.View.{view}
use Rattle.spec_table.specs.Check.{in_turn, sections_stand, counts_fit, runs_stand, names_fit, letters_stand, rule_stands, well_formed, is_table}
use Rattle.spec_table.specs.Check.{string_fits, named_sections, members_run, inputs_run, rules_run, users_run, hosts_run, calculation_run, name_run}
use Rattle.spec_table.specs.Check.{number_field, flags_field, flags_stand, calculation_stands, numbers_fit, no_calculation, undefined_number}
use Rattle.spec_table.specs.Fields.{Between, one_between}
use Rattle.spec_table.proofs.laws.Fields.{in_turn_between}
use Rattle.spec_table.proofs.laws.Bytes.{each}
use Rattle.spec_table.specs.Policy.{row}

all_at : {A : Type 0} (p : A → Bool) (xs : List A) (i : ℕ) (d : A) → all p xs ≡ true → i < length xs → p (get_or xs i d) ≡ true
all_at p [] i d h l = absurd (omega arith)
all_at p (x ∷ xs) zero d h l = (both (p x) (all p xs) h).0
all_at p (x ∷ xs) (suc i) d h l = all_at p xs i d (both (p x) (all p xs) h).1 (omega arith)

either : (a b : Bool) → a || b ≡ true → (a ≡ true) ⊎ (b ≡ true)
either true b e = inl refl
either false b e = inr e

module _ {A : Type 0} (d : A) {n e : ℕ} where
  run_within : (f : A → Run) (xs : List A) (i : ℕ) → Between n e (map f xs) → i < length xs → Within e (f (get_or xs i d))
  run_within f [] i b l = absurd (omega arith)
  run_within f (x ∷ xs) zero (one_between p q b) l = q
  run_within f (x ∷ xs) (suc i) (one_between p q b) l = run_within f xs i b (omega arith)

  -- two runs of each record, one behind the other
  runs_within :
      (f g : A → Run) (xs : List A) (i : ℕ) → Between n e (joined (map (λ x. f x ∷ g x ∷ []) xs)) → i < length xs
      → Within e (f (get_or xs i d)) × Within e (g (get_or xs i d))
  runs_within f g [] i b l = absurd (omega arith)
  runs_within f g (x ∷ xs) zero (one_between p q (one_between u v b)) l = (q, v)
  runs_within f g (x ∷ xs) (suc i) (one_between p q (one_between u v b)) l = runs_within f g xs i b (omega arith)

pub stands : (b : List ℕ) → is_table b ≡ true → (sections_stand b ≡ true) × (well_formed (view b) ≡ true)
unfolding is_table
stands b h = both (sections_stand b) (well_formed (view b)) h

-- the names of a section's records, and their calculations, lie in the strings
abbrev names_in : Content → Section → Bool
names_in c s = all (λ r. string_fits c longest_name (name_run s r)) (c.records s)

module _ (c : Content) where
  -- what stands of a rule
  pub rule_parts :
      (r : List ℕ) → rule_stands c r ≡ true
      → (calculation_stands c (calculation_run r) ≡ true)
      × (numbers_fit c user_groups (users_run r) ≡ true)
      × (numbers_fit c host_groups (hosts_run r) ≡ true)
  rule_parts r e =
      let u = numbers_fit c user_groups (users_run r) in
      let h = numbers_fit c host_groups (hosts_run r) in
      let k = calculation_stands c (calculation_run r) in
      let x = both (flags_stand (flags_field r)) (k && (u && h)) e in
      let y = both k (u && h) x.1 in
      let z = both u h y.1 in
      (y.0, z.0, z.1)

  -- and of its calculation, if it has one
  pub calculation_parts :
      (r : Run) → calculation_stands c r ≡ true → no_calculation r ≡ false
      → (string_fits c longest_calculation r ≡ true) × (missing (tree_of (part r c.strings)) ≡ false)
  calculation_parts r e n =
      let f = string_fits c longest_calculation r in
      let m = missing (tree_of (part r c.strings)) in
      let k = both f (not m) (subst (λ (b : Bool). b || f && not m ≡ true) n e) in
      (k.0, not-true m k.1)

module _ (c : Content) (w : well_formed c ≡ true) where
  pub conditions : (runs_stand c ≡ true) × (names_fit c ≡ true) × (letters_stand c ≡ true) × (all (rule_stands c) (c.records rules) ≡ true)
  conditions =
      let x = both (counts_fit c) (runs_stand c && (names_fit c && (letters_stand c && all (rule_stands c) (c.records rules)))) w in
      let y = both (runs_stand c) (names_fit c && (letters_stand c && all (rule_stands c) (c.records rules))) x.1 in
      let z = both (names_fit c) (letters_stand c && all (rule_stands c) (c.records rules)) y.1 in
      let v = both (letters_stand c) (all (rule_stands c) (c.records rules)) z.1 in
      (y.0, z.0, v.0, v.1)

  -- ---- counts

  abbrev Few : Section → Type 0
  Few s = length (c.records s) ≤ most s

  few : (n : ℕ) → n < 7 → Few (get_or sections n user_groups)
  few n l =
      let s = get_or sections n user_groups in
      let p : Section → Bool = λ t. leb (length (c.records t)) (most t) in
      let x = both (counts_fit c) (runs_stand c && (names_fit c && (letters_stand c && all (rule_stands c) (c.records rules)))) w in
      let y = both (all p sections) (leb (length c.strings) most_bytes) x.0 in
      leb-true (length (c.records s)) (most s) (all_at p sections n user_groups y.0 l)

  pub records_few : (s : Section) → length (c.records s) ≤ most s
  records_few =
      each Few
      (few 0 (omega arith))
      (few 1 (omega arith))
      (few 2 (omega arith))
      (few 3 (omega arith))
      (few 4 (omega arith))
      (few 5 (omega arith))
      (few 6 (omega arith))

  -- ---- rules

  rule_at : (i : ℕ) → i < length (c.records rules) → rule_stands c (row c rules i) ≡ true
  rule_at i l = all_at (rule_stands c) (c.records rules) i [] conditions.3 l

  rule_clauses :
      (i : ℕ) → i < length (c.records rules)
      → (calculation_stands c (calculation_run (row c rules i)) ≡ true)
      × (numbers_fit c user_groups (users_run (row c rules i)) ≡ true)
      × (numbers_fit c host_groups (hosts_run (row c rules i)) ≡ true)
  rule_clauses i l = rule_parts c (row c rules i) (rule_at i l)

  -- ---- names

  named : (s : Section) → names_in c s ≡ true → (i : ℕ) → i < length (c.records s) → Within (length c.strings) (name_run s (row c s i))
  named s h i l =
      let r = name_run s (row c s i) in
      leb-true
      (r.first + r.count)
      (length c.strings)
      (both
      (leb (r.first + r.count) (length c.strings))
      (leb r.count longest_name)
      (all_at (λ q. string_fits c longest_name (name_run s q)) (c.records s) i [] h l)).0

  at_section : (n : ℕ) → n < 6 → names_in c (get_or named_sections n user_groups) ≡ true
  at_section n l = all_at (names_in c) named_sections n user_groups conditions.1 l

  calculated : (i : ℕ) → i < length (c.records rules) → Within (length c.strings) (calculation_run (row c rules i))
  calculated i l =
      let r = calculation_run (row c rules i) in
      let f = string_fits c longest_calculation r in
      let m = not (missing (tree_of (part r c.strings))) in
      ⊎_elim
      (λ e. let z = both (eqb r.first 0) (eqb r.count 0) e in omega (arith, eqb-true r.first 0 z.0, eqb-true r.count 0 z.1))
      (λ e.
      leb-true
      (r.first + r.count)
      (length c.strings)
      (both (leb (r.first + r.count) (length c.strings)) (leb r.count longest_calculation) (both f m e).0).0)
      (either (no_calculation r) (f && m) (rule_clauses i l).0)

  -- a calculation that a rule has is one
  pub calculation_there :
      (i : ℕ) → i < length (c.records rules) → let r = calculation_run (row c rules i) in
      no_calculation r ≡ false → missing (tree_of (part r c.strings)) ≡ false
  calculation_there i l n = (calculation_parts c (calculation_run (row c rules i)) (rule_clauses i l).0 n).1

  pub name_within : (s : Section) (i : ℕ) → i < length (c.records s) → Within (length c.strings) (name_run s (row c s i))
  name_within =
      each
      (λ s. (i : ℕ) → i < length (c.records s) → Within (length c.strings) (name_run s (row c s i)))
      (named user_groups (at_section 0 (omega arith)))
      (named host_groups (at_section 1 (omega arith)))
      (named members (at_section 2 (omega arith)))
      (named access_groups (at_section 3 (omega arith)))
      (named inputs (at_section 4 (omega arith)))
      calculated
      (named references (at_section 5 (omega arith)))

  -- ---- runs

  pub in_runs :
      (in_turn 0 (map members_run (c.records user_groups ++ c.records host_groups)) (length (c.records members)) ≡ true)
      × (in_turn 0 (map inputs_run (c.records access_groups)) (length (c.records inputs)) ≡ true)
      × (in_turn 0 (map rules_run (c.records access_groups)) (length (c.records rules)) ≡ true)
      × (in_turn 0 (joined (map (λ r. users_run r ∷ hosts_run r ∷ []) (c.records rules))) (length (c.records references)) ≡ true)
  in_runs =
      let m = in_turn 0 (map members_run (c.records user_groups ++ c.records host_groups)) (length (c.records members)) in
      let i = in_turn 0 (map inputs_run (c.records access_groups)) (length (c.records inputs)) in
      let r = in_turn 0 (map rules_run (c.records access_groups)) (length (c.records rules)) in
      let f = in_turn 0 (joined (map (λ q. users_run q ∷ hosts_run q ∷ []) (c.records rules))) (length (c.records references)) in
      let x = both m (i && (r && f)) conditions.0 in
      let y = both i (r && f) x.1 in
      let z = both r f y.1 in
      (x.0, y.0, z.0, z.1)

  member_runs :
      (i : ℕ) → i < length (c.records user_groups ++ c.records host_groups)
      → Within (length (c.records members)) (members_run (get_or (c.records user_groups ++ c.records host_groups) i []))
  member_runs i l =
      run_within [] members_run
      (c.records user_groups ++ c.records host_groups) i
      (in_turn_between 0 (length (c.records members)) (map members_run (c.records user_groups ++ c.records host_groups)) in_runs.0) l

  pub users_members : (i : ℕ) → i < length (c.records user_groups) → Within (length (c.records members)) (members_run (row c user_groups i))
  users_members i l =
      let n = length-append (c.records user_groups) (c.records host_groups) in
      rw (← get_or-append (c.records user_groups) (c.records host_groups) [] i l) (member_runs i (omega arith))

  pub hosts_members : (i : ℕ) → i < length (c.records host_groups) → Within (length (c.records members)) (members_run (row c host_groups i))
  hosts_members i l =
      let n = length-append (c.records user_groups) (c.records host_groups) in
      rw (← get_or-append-add (c.records user_groups) (c.records host_groups) i []) (member_runs (length (c.records user_groups) + i) (omega arith))

  pub inputs_within : (i : ℕ) → i < length (c.records access_groups) → Within (length (c.records inputs)) (inputs_run (row c access_groups i))
  inputs_within i l =
      run_within [] inputs_run
      (c.records access_groups) i
      (in_turn_between 0 (length (c.records inputs)) (map inputs_run (c.records access_groups)) in_runs.1) l

  pub rules_within : (i : ℕ) → i < length (c.records access_groups) → Within (length (c.records rules)) (rules_run (row c access_groups i))
  rules_within i l =
      run_within [] rules_run
      (c.records access_groups) i
      (in_turn_between 0 (length (c.records rules)) (map rules_run (c.records access_groups)) in_runs.2) l

  -- the user references of a rule, and its host references
  pub references_within :
      (i : ℕ) → i < length (c.records rules)
      → Within (length (c.records references)) (users_run (row c rules i)) × Within (length (c.records references)) (hosts_run (row c rules i))
  references_within i l =
      runs_within [] users_run hosts_run
      (c.records rules) i
      (in_turn_between 0 (length (c.records references)) (joined (map (λ r. users_run r ∷ hosts_run r ∷ []) (c.records rules))) in_runs.3) l

  -- ---- numbers

  numbered :
      (s : Section) (r : Run) → numbers_fit c s r ≡ true → Within (length (c.records references)) r → (k : ℕ) → k < r.count
      → (number_field (row c references (r.first + k)) ≡ undefined_number → ⊥) → number_field (row c references (r.first + k)) < length (c.records s)
  numbered s r h e k l u =
      let p : List ℕ → Bool = λ q. eqb (number_field q) undefined_number || ltb (number_field q) (length (c.records s)) in
      let n = number_field (row c references (r.first + k)) in
      let t = all_at p (part r (c.records references)) k [] h (omega (arith, part_count r (c.records references) e)) in
      ⊎_elim
      (λ z. absurd (u (eqb-true n undefined_number z)))
      (λ z. ltb-true n (length (c.records s)) z)
      (either (eqb n undefined_number) (ltb n (length (c.records s))) (rw (part_at r (c.records references) [] k l) at t))

  -- a reference's number, unless it says that there is no such group
  pub user_number :
      (i : ℕ) → i < length (c.records rules) → (k : ℕ) → k < (users_run (row c rules i)).count
      → (number_field (row c references ((users_run (row c rules i)).first + k)) ≡ undefined_number → ⊥)
      → number_field (row c references ((users_run (row c rules i)).first + k)) < length (c.records user_groups)
  user_number i l = numbered user_groups (users_run (row c rules i)) (rule_clauses i l).1 (references_within i l).0

  pub host_number :
      (i : ℕ) → i < length (c.records rules) → (k : ℕ) → k < (hosts_run (row c rules i)).count
      → (number_field (row c references ((hosts_run (row c rules i)).first + k)) ≡ undefined_number → ⊥)
      → number_field (row c references ((hosts_run (row c rules i)).first + k)) < length (c.records host_groups)
  host_number i l = numbered host_groups (hosts_run (row c rules i)) (rule_clauses i l).2 (references_within i l).1
