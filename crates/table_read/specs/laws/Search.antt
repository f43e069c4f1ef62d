-- A search among records, record by record.
use Rattle.std.specs.Prelude as rust
use Rattle.std.specs.Prelude.{◌≡◌, refl, Some, None, option_map, Bool, true, false, not, cond, ◌||◌, List, [], ◌∷◌, ℕ, zero, suc, ◌+◌, ◌-◌, ◌≤◌, ◌<◌, eqb, length, take, drop, get_or}
use Rattle.std.specs.List.{find, range_with_len}
use Rattle.std.proofs.Common.{sym, ap, ap₂, subst, ◌∙◌, arith}
use Rattle.std.proofs.lemmas.Bool.{false≢true}
use Rattle.std.proofs.Math.Option.{Option, none, some, map, map-eq-none_iff, map-eq-some_iff}
use Rattle.spec_lists.specs.Text.{same}
use Rattle.spec_lists.specs.Select.{any, first, first_if, missing}
use Rattle.spec_lists.specs.Runs.{Run, part}
use Rattle.spec_rule.proofs.laws.Walk.{list_on, list_end}
use Rattle.spec_rule.specs.Answering.{named}
use Rattle.spec_file.specs.Limit.{access_groups}
use Rattle.spec_table.specs.View.{view}
use Rattle.spec_table.specs.Check.{is_table, letter_field}
use Rattle.spec_table.specs.Policy.{name, row}
use Rattle.spec_decision.specs.LookUp.{links_in}
use Rattle.spec_decision.specs.Groups.{Numbered, groups_of, group_name, group_named, group_answering, answering_number}
use Rattle.spec_decision.proofs.laws.Groups.{length_numbered, numbered_at, group_stands, answering_stands, by_number, answering_row}
use Rattle.table_read.specs.Stored.{Stored}
use Rattle.table_read.specs.Search.{Index, Finds, found, not_found, index_of, number_named, number_full, FindsAnswering, FindsInput}

pub finds_at : {rows : List (List ℕ)} {o : Option (List ℕ)} {r : Index} (i : ℕ) → Finds rows o r → r ≡ Some i → (o ≡ some (get_or rows i [])) × (i < length rows)
finds_at {rows} i (found j l) e = let z : j ≡ i = cc in (ap (λ (k : ℕ). some (get_or rows k [])) z, rw z at l)
finds_at i not_found e = let z : false ≡ true = cc in absurd (false≢true z)

pub finds_none : {rows : List (List ℕ)} {o : Option (List ℕ)} {r : Index} → Finds rows o r → r ≡ None → o ≡ none
finds_none (found j l) e = let z : false ≡ true = cc in absurd (false≢true z)
finds_none not_found e = refl

found_here : (rows : List (List ℕ)) (j : ℕ) {o : Option (List ℕ)} → j < length rows → o ≡ some (get_or rows j []) → Finds rows o (Some j)
found_here rows j l e = subst (λ (o : Option (List ℕ)). Finds rows o (Some j)) (sym e) (found j l)

nothing_left : (rows : List (List ℕ)) {o : Option (List ℕ)} → o ≡ none → Finds rows o None
nothing_left rows e = subst (λ (o : Option (List ℕ)). Finds rows o None) (sym e) not_found

-- among all access groups, by their numbers from the k-th on
module _ (b g : List ℕ) where
  abbrev is_named : ℕ → Bool
  is_named i = same (name (view b) access_groups (row (view b) access_groups i)) g

  group_on :
      (i : ℕ) → i < length ((view b).records access_groups)
      → drop i (groups_of b) ≡ record { number = i; row = row (view b) access_groups i } ∷ drop (i + 1) (groups_of b)
  group_on i l =
      let d : Numbered = record { number = 0; row = [] } in
      let c = length_numbered 0 ((view b).records access_groups) in
      let z : 0 + i ≡ i = omega arith in
      list_on (groups_of b) d i (omega arith)
      ∙ ap (λ (x : Numbered). x ∷ drop (i + 1) (groups_of b)) (numbered_at 0 ((view b).records access_groups) d i l)
      ∙ ap (λ (k : ℕ). record { number = k; row = row (view b) access_groups i } ∷ drop (i + 1) (groups_of b)) z

  abbrev number_from : List Numbered → Index
  number_from xs = index_of (map (λ x. x.number) (named (group_name b) g xs))

  named_from : (k n : ℕ) → k + n ≡ length ((view b).records access_groups) → find is_named (range_with_len k n) ≡ number_from (drop k (groups_of b))
  named_from k zero e = sym (ap number_from (list_end (groups_of b) k (omega (arith, length_numbered 0 ((view b).records access_groups)))))
  named_from k (suc n) e = by (is_named k) (named_from (k + 1) n (omega arith)) ∙ sym (ap number_from (group_on k (omega arith)))
    where
      by :
          (t : Bool) → find is_named (range_with_len (k + 1) n) ≡ number_from (drop (k + 1) (groups_of b))
          → cond t (Some k) (find is_named (range_with_len (k + 1) n))
          ≡ index_of (map (λ x. x.number) (first_if t (record { number = k; row = row (view b) access_groups k }) (named (group_name b) g (drop (k + 1) (groups_of b)))))
      by true h = refl
      by false h = h

  pub named_first : {n : ℕ} → n ≡ length ((view b).records access_groups) → find is_named (range_with_len 0 (n - 0)) ≡ index_of (number_named b g)
  named_first e = named_from 0 _ (omega arith)

-- among a run of records, by their numbers
module _ (p : List ℕ → Bool) (rows : List (List ℕ)) where
  run_first : (k n : ℕ) → k + n ≤ length rows → Finds rows (first p (take n (drop k rows))) (find (λ i. p (get_or rows i [])) (range_with_len k n))
  run_first k zero h = not_found
  run_first k (suc n) h =
      subst
      (λ (xs : List (List ℕ)). Finds rows (first p (take (suc n) xs)) (find (λ i. p (get_or rows i [])) (range_with_len k (suc n))))
      (sym (list_on rows [] k (omega arith)))
      (by (p (get_or rows k [])) (run_first (k + 1) n (omega arith)))
    where
      by :
          (t : Bool) → Finds rows (first p (take n (drop (k + 1) rows))) (find (λ i. p (get_or rows i [])) (range_with_len (k + 1) n))
          → Finds
          rows
          (first_if t (get_or rows k []) (first p (take n (drop (k + 1) rows))))
          (cond t (Some k) (find (λ i. p (get_or rows i [])) (range_with_len (k + 1) n)))
      by true f = found k (omega arith)
      by false f = f

  -- a run that the code knows as s and n
  pub run_found :
      {s n : ℕ} {r : Index} (q : Run) → s ≡ q.first → n ≡ q.count → q.first + q.count ≤ length rows
      → r ≡ find (λ i. p (get_or rows i [])) (range_with_len s (s + n - s)) → Finds rows (first p (part q rows)) r
  run_found {s} {n} q e c h f =
      let z : s + n - s ≡ q.count = omega arith in
      subst (λ (r : Index). Finds rows (first p (part q rows)) r) (sym (f ∙ ap₂ (λ (k m : ℕ). find (λ i. p (get_or rows i [])) (range_with_len k m)) e z)) (run_first q.first q.count h)

pub same_option : {A : Type 0} (r : rust.Option A) → option_map (λ x. x) r ≡ r
same_option (Some x) = refl
same_option None = refl

-- a number is found exactly where there is one
pub index_at : (o : Option ℕ) {r : Index} (i : ℕ) → r ≡ index_of o → r ≡ Some i → o ≡ some i
index_at none i e f = let z : false ≡ true = cc in absurd (false≢true z)
index_at (some j) i e f = let z : j ≡ i = cc in ap some z

pub index_none : (o : Option ℕ) {r : Index} → r ≡ index_of o → r ≡ None → o ≡ none
index_none none e f = refl
index_none (some j) e f = let z : false ≡ true = cc in absurd (false≢true z)

-- ---- what a number says

module _ (b g : List ℕ) {r : Index} where
  -- the record of the number is the one that answers
  pub finds_answering : r ≡ index_of (answering_number b g) → FindsAnswering b g r
  finds_answering e = by (group_answering b g) refl e
    where
      by : (o : Option Numbered) → group_answering b g ≡ o → r ≡ index_of (map (λ x. x.number) o) → FindsAnswering b g r
      by none h f = rw f (nothing_left ((view b).records access_groups) (sym (answering_row b g) ∙ ap (map (λ x. x.row)) h))
      by (some x) h f =
          let s = answering_stands b g x h in
          rw f
          (found_here
          ((view b).records access_groups)
          x.number
          s.inside
          (sym (answering_row b g) ∙ ap (map (λ x. x.row)) h ∙ ap some s.row))

  pub answering_stored : (i : ℕ) → is_table b ≡ true → r ≡ index_of (answering_number b g) → r ≡ Some i → Stored b access_groups i
  answering_stored i h e f = record { table = h; inside = (finds_at i (finds_answering e) f).1 }

  -- the group of a full name
  pub group_none : r ≡ index_of (number_full b g) → r ≡ None → group_named b g ≡ none
  group_none e f = (map-eq-none_iff (λ x. x.number) (group_named b g)).0 (index_none (number_full b g) e f)

  module _ (i : ℕ) (e : r ≡ index_of (number_full b g)) (f : r ≡ Some i) where
    group_found : (x : Numbered) × (group_named b g ≡ some x) × (x.number ≡ i)
    group_found = (map-eq-some_iff (λ x. x.number) (group_named b g)).0 (index_at (number_full b g) i e f)

    pub group_at : group_named b g ≡ some (record { number = i; row = row (view b) access_groups i })
    group_at = group_found.1 ∙ ap some (by_number i (group_stands b g group_found.0 group_found.1) group_found.2)

    pub group_stored : is_table b ≡ true → Stored b access_groups i
    group_stored h = record { table = h; inside = (group_stands b g (record { number = i; row = row (view b) access_groups i }) group_at).inside }

-- some element passes a test exactly where there is a first that does
any_first : {A : Type 0} (p : A → Bool) (xs : List A) → any p xs ≡ not (missing (first p xs))
any_first p [] = refl
any_first p (x ∷ xs) = by (p x) (any_first p xs)
  where
    by : (b : Bool) → any p xs ≡ not (missing (first p xs)) → b || any p xs ≡ not (missing (first_if b x (first p xs)))
    by true e = refl
    by false e = e

-- a group has an input of a letter exactly where the search finds one
module _ (b : List ℕ) (i letter : ℕ) where
  abbrev pub has_input : Bool
  has_input = any (λ w. eqb (letter_field w) letter) (links_in (view b) (row (view b) access_groups i))

  input_is :
      {o : Option (List ℕ)} → first (λ w. eqb (letter_field w) letter) (links_in (view b) (row (view b) access_groups i)) ≡ o → has_input ≡ not (missing o)
  input_is e =
      any_first (λ w. eqb (letter_field w) letter) (links_in (view b) (row (view b) access_groups i))
      ∙ ap (λ (o : Option (List ℕ)). not (missing o)) e

  pub input_there : {r : Index} (j : ℕ) → FindsInput b i letter r → r ≡ Some j → has_input ≡ true
  input_there j f e = input_is (finds_at j f e).0

  pub input_absent : {r : Index} → FindsInput b i letter r → r ≡ None → has_input ≡ false
  input_absent f e = input_is (finds_none f e)
