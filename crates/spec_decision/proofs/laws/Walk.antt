-- The walk over the access groups of a table: the machine finds what NamesGroup says, and no group that answers is missed.
use Rattle.std.specs.Prelude.{◌≡◌, Bool, true, false, cond, ◌↔◌, ◌⊎◌, ℕ, zero, suc, ◌+◌, ◌≤◌, ◌<◌, leb, length, get_or}
use Rattle.std.proofs.Math.Path.{refl, ap}
use Rattle.std.proofs.Common.{sym, subst, ◌∙◌, arith, leb-true, leb-false, le-leb}
use mathlib.Core.List.{List, [], ◌∷◌, ◌++◌, Memᴰ}
use Rattle.std.proofs.Math.Option.{Option, none, some, map}
use Rattle.spec_lists.proofs.laws.Member.{every_member}
use Rattle.spec_rule.specs.Answering.{default_name}
use Rattle.spec_rule.specs.Privilege.{FirstSuch, Answers, by_name, by_default}
use Rattle.spec_rule.proofs.laws.Privilege.{answering_is}
use Rattle.spec_file.specs.Limit.{access_groups, inputs}
use Rattle.spec_table.specs.View.{view, strings_extent}
use Rattle.spec_table.specs.Table.{Table, name_run}
use Rattle.spec_table.specs.Policy.{row}
use Rattle.spec_table.proofs.laws.Table.{table_is}
use Rattle.spec_table.proofs.laws.Fields.{strings_count, strings_inside, string_at}
use Rattle.spec_table.proofs.laws.Standing.{stands, name_within}
use Rattle.spec_decision.specs.declared.Found.{Found}
use Rattle.spec_decision.specs.declared.Found.TheVariants.{Part, NotTable, NoInput}
use Rattle.spec_decision.specs.LookUp.{number, part_in, name_part, input_of, look_up}
use Rattle.spec_decision.specs.Groups.{Numbered, numbered, groups_of, group_name, full_name, group_answering}
use Rattle.spec_decision.specs.Walk.{NamesGroup, row_at, group_at}
use Rattle.spec_decision.proofs.laws.Found.{found_in, no_table_is, part_is, nothing_is}
use Rattle.spec_decision.proofs.laws.Refused.{refused_found_empty}
use Rattle.spec_decision.proofs.laws.Groups.{OfTable, groups_stand, length_numbered, answering_row}

-- the group of a number is among those that are numbered
numbered_member :
    (n : ℕ) (rows : List (List ℕ)) (i : ℕ) → i < length rows → Memᴰ (record { number = n + i; row = get_or rows i [] }) (numbered n rows)
numbered_member n [] i l = absurd (omega arith)
numbered_member n (r ∷ rows) zero l =
    let e : n + 0 ≡ n = omega arith in Memᴰ.head (ap (λ (k : ℕ). record { number = k; row = r }) e)
numbered_member n (r ∷ rows) (suc i) l =
    let e : suc n + i ≡ n + suc i = omega arith in
    Memᴰ.tail (subst (λ (k : ℕ). Memᴰ (record { number = k; row = get_or rows i [] }) (numbered (suc n) rows)) e (numbered_member (suc n) rows i (omega arith)))

row_inside : (rows : List (List ℕ)) (n : ℕ) → n < length rows → row_at rows n ≡ some (get_or rows n [])
row_inside rows n l = rw (le-leb (suc n) (length rows) l)

row_behind : (rows : List (List ℕ)) (n : ℕ) → (row_at rows n ≡ none) ↔ (length rows ≤ n)
row_behind rows n = (λ e. sound (leb (suc n) (length rows)) refl e, λ l. complete (leb (suc n) (length rows)) refl l)
  where
    sound : (t : Bool) → leb (suc n) (length rows) ≡ t → cond t (some (get_or rows n [])) none ≡ none → length rows ≤ n
    sound true h e = let z : ◌≡◌ {A = ℕ} 0 1 = cc in absurd (omega arith)
    sound false h e = omega (arith, leb-false (suc n) (length rows) h)

    complete : (t : Bool) → leb (suc n) (length rows) ≡ t → length rows ≤ n → cond t (some (get_or rows n [])) none ≡ none
    complete true h l = absurd (omega (arith, leb-true (suc n) (length rows) h))
    complete false h l = refl

module _ (b : List ℕ) where
  abbrev rows : List (List ℕ)
  rows = (view b).records access_groups

  stands_at : {g : Numbered} → Memᴰ g (groups_of b) → OfTable b g
  stands_at m = every_member (groups_stand b) m

  names_is : (n : ℕ) (p : Found) → (map (name_part access_groups b) (row_at rows n) ≡ some p) ↔ NamesGroup b n p
  names_is n p = (λ e. sound (leb (suc n) (length rows)) refl e, complete)
    where
      sound :
          (t : Bool) → leb (suc n) (length rows) ≡ t → map (name_part access_groups b) (cond t (some (get_or rows n [])) none) ≡ some p
          → NamesGroup b n p
      sound true h e =
          record {
            group = record { number = 0 + n; row = get_or rows n [] };
            among = numbered_member 0 rows n (leb-true (suc n) (length rows) h);
            number = omega arith;
            has = cc;
          }
      sound false h e = let z : ◌≡◌ {A = ℕ} 0 1 = cc in absurd (omega arith)

      complete : NamesGroup b n p → map (name_part access_groups b) (row_at rows n) ≡ some p
      complete g =
          let s = stands_at g.among in
          let l : n < length rows = omega (arith, s.inside, g.number) in
          ap (map (name_part access_groups b)) (row_inside rows n l)
          ∙ ap (λ (r : List ℕ). some (name_part access_groups b r)) (ap (row (view b) access_groups) (sym g.number) ∙ sym s.row)
          ∙ ap some g.has

  walks : (n : ℕ) → group_at b n ≡ found_in access_groups b (row_at rows n)
  unfolding group_at
  walks n = refl

  pub no_table_walked_is : (n : ℕ) → (group_at b n ≡ NotTable) ↔ (Table b → ⊥)
  no_table_walked_is n = let t = no_table_is access_groups b (row_at rows n) in (λ e. t.0 (sym (walks n) ∙ e), λ h. walks n ∙ t.1 h)

  pub group_walked_is : (n at l : ℕ) → (group_at b n ≡ Part at l) ↔ (Table b × NamesGroup b n (Part at l))
  group_walked_is n at l =
      let t = part_is access_groups b (row_at rows n) at l in
      let f = names_is n (Part at l) in
      (λ e. let h = t.0 (sym (walks n) ∙ e) in (h.0, f.0 h.1), λ h. walks n ∙ t.1 (h.0, f.1 h.1))

  pub no_group_walked_is : (n : ℕ) → (group_at b n ≡ NoInput) ↔ (Table b × (length (groups_of b) ≤ n))
  no_group_walked_is n =
      let t = nothing_is access_groups b (row_at rows n) in
      let r = row_behind rows n in
      let k : length (groups_of b) ≡ length rows = length_numbered 0 rows in (
        λ e. let h = t.0 (sym (walks n) ∙ e) in (h.0, omega (arith, r.0 h.1, k)),
        λ h. walks n ∙ t.1 (h.0, r.1 (omega (arith, h.1, k))),
      )

  -- the part is the group's name
  pub walked_name : (g : Numbered) → Table b → Memᴰ g (groups_of b) → part_in (group_at b g.number) b ≡ group_name b g
  walked_name g t m =
      let s = stands b ((table_is b).1 t) in
      let o = stands_at m in
      let w = name_within (view b) s.1 access_groups g.number o.inside in
      let u : (name_run access_groups g.row).first + (name_run access_groups g.row).count ≤ length (view b).strings = rw o.row w in
      let has : NamesGroup b g.number (name_part access_groups b g.row) = record { group = g; among = m; number = refl; has = refl } in
      ap (λ (f : Found). part_in f b) ((group_walked_is g.number _ _).1 (t, has))
      ∙ sym (string_at b s.0 (name_run access_groups g.row) (rw (strings_count b s.0) at u))

  -- it lies in the bytes
  pub walked_inside : (n at l : ℕ) → group_at b n ≡ Part at l → at + l ≤ length b
  walked_inside n at l e =
      let h = (group_walked_is n at l).0 e in
      let g = h.1.group in
      let o = stands_at h.1.among in
      let s = stands b ((table_is b).1 h.0) in
      let w = name_within (view b) s.1 access_groups g.number o.inside in
      let u : (name_run access_groups g.row).first + (name_run access_groups g.row).count ≤ length (view b).strings = rw o.row w in
      let first : (strings_extent b).first + (name_run access_groups g.row).first ≡ at = part_first h.1.has in
      let count : (name_run access_groups g.row).count ≡ l = part_count h.1.has in
      omega (arith, u, strings_count b s.0, (strings_inside b s.0).ends, first, count)
    where
      part_first : {x y p q : ℕ} → Part x y ≡ Part p q → x ≡ p
      part_first f = cc

      part_count : {x y p q : ℕ} → Part x y ≡ Part p q → y ≡ q
      part_count f = cc

  pub refused_walk_empty : (n k : ℕ) → number (group_at b n) ≡ some k → ((k ≡ 20) ⊎ (k ≡ 22)) × (part_in (group_at b n) b ≡ [])
  refused_walk_empty n k e = refused_found_empty (group_at b n) b k e

-- ---- no group that answers is missed

full_given : (n : List ℕ) → (n ≡ [] → ⊥) → full_name n ≡ n
full_given [] h = absurd (h refl)
full_given (x ∷ n) h = refl

default_given : default_name ≡ [] → ⊥
default_given e = let z : ◌≡◌ {A = ℕ} 0 1 = cc in omega arith

module _ (b n : List ℕ) (g : Numbered) where
  -- a name that is given and finds g first
  record ByName : Type 0 where
    pub asked : List ℕ
    pub given : asked ≡ [] → ⊥
    pub first : FirstSuch (λ h. group_name b h ≡ asked) (groups_of b) g

  by_its_name : Answers (group_name b) n (groups_of b) (some g) → ByName
  by_its_name (by_name h f) = record { asked = n; given = h; first = f }
  by_its_name (by_default h f) = record { asked = default_name; given = default_given; first = f }

  -- found by its own name
  its_own : ByName → FirstSuch (λ h. group_name b h ≡ group_name b g) (groups_of b) g
  its_own a = subst (λ (m : List ℕ). FirstSuch (λ h. group_name b h ≡ m) (groups_of b) g) (sym a.first.such) a.first

  its_own_given : ByName → group_name b g ≡ [] → ⊥
  its_own_given a e = a.given (sym a.first.such ∙ e)

  module _ (answers : Answers (group_name b) n (groups_of b) (some g)) where
    abbrev found : ByName
    found = by_its_name answers

    pub answering_member : Memᴰ g (groups_of b)
    answering_member = subst (λ (gs : List Numbered). Memᴰ g gs) (sym found.first.among) (seam found.first.earlier)
      where
        seam : (early : List Numbered) → Memᴰ g (early ++ (g ∷ found.first.later))
        seam [] = Memᴰ.head refl
        seam (x ∷ early) = Memᴰ.tail (seam early)

    -- set by that name, the reading is this group's
    pub answering_named : FirstSuch (λ h. group_name b h ≡ full_name (group_name b g)) (groups_of b) g
    answering_named =
        subst
        (λ (m : List ℕ). FirstSuch (λ h. group_name b h ≡ m) (groups_of b) g)
        (sym (full_given (group_name b g) (its_own_given found)))
        (its_own found)

    answering_again : group_answering b n ≡ group_answering b (group_name b g)
    answering_again =
        (answering_is (group_name b) n (groups_of b) (some g)).1 answers
        ∙ sym ((answering_is (group_name b) (group_name b g) (groups_of b) (some g)).1 (by_name (its_own_given found) (its_own found)))

    -- looked up by that name, its inputs are those that answer
    pub answering_inputs : (letter : ℕ) → look_up b n letter ≡ look_up b (group_name b g) letter
    unfolding look_up
    answering_inputs letter =
        ap
        (λ (o : Option (List ℕ)). found_in inputs b (input_of (view b) letter o))
        (sym (answering_row b n) ∙ ap (map (λ h. h.row)) answering_again ∙ answering_row b (group_name b g))
