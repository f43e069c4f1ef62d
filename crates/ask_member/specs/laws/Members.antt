-- Laws of members and references, for users and hosts alike.
use Rattle.std.specs.Prelude.{◌≡◌, refl, Bool, true, List, [], ◌∷◌, map, ℕ, ◌+◌, ◌-◌, ◌≤◌, ◌<◌, length}
use Rattle.std.proofs.Common.{arith}
use Rattle.std.proofs.lemmas.List.{length-map}
use Rattle.spec_lists.specs.Select.{any}
use Rattle.spec_lists.specs.Runs.{Run, part}
use Rattle.spec_lists.proofs.laws.Runs.{Within}
use Rattle.spec_rule.specs.Rule.{belongs}
use Rattle.spec_rule.proofs.laws.Walk.{part_count}
use Rattle.spec_file.specs.Limit.{members, rules, references}
use Rattle.spec_table.specs.Layout.{Content}
use Rattle.spec_table.specs.View.{view}
use Rattle.spec_table.specs.Check.{well_formed, members_run, number_field, undefined_number}
use Rattle.spec_table.specs.Policy.{row}
use Rattle.spec_table.proofs.laws.Standing.{stands, users_members, hosts_members, references_within, user_number, host_number}
use Rattle.table_read.specs.Stored.{Stored}
use Rattle.ask_member.specs.declared.Name.{Name}
use Rattle.ask_member.specs.declared.Name.TheVariants.{User, Host}
use Rattle.ask_member.specs.Members.{groups, references_run, Refers}

module _ (c : Content) (w : well_formed c ≡ true) where
  pub members_within : (k : Name) (i : ℕ) → i < length (c.records (groups k)) → Within (length (c.records members)) (members_run (row c (groups k) i))
  members_within (User u) i l = users_members c w i l
  members_within (Host u) i l = hosts_members c w i l

  pub kind_references : (k : Name) (i : ℕ) → i < length (c.records rules) → Within (length (c.records references)) (references_run k (row c rules i))
  kind_references (User u) i l = (references_within c w i l).0
  kind_references (Host u) i l = (references_within c w i l).1

  pub kind_number :
      (k : Name) (i : ℕ) → i < length (c.records rules) → (m : ℕ) → m < (references_run k (row c rules i)).count
      → (number_field (row c references ((references_run k (row c rules i)).first + m)) ≡ undefined_number → ⊥)
      → number_field (row c references ((references_run k (row c rules i)).first + m)) < length (c.records (groups k))
  kind_number (User u) i l = user_number c w i l
  kind_number (Host u) i l = host_number c w i l

-- ---- as the code finds them

module _ (b : List ℕ) (i : ℕ) (k : Name) (h : Stored b rules i) where
  abbrev named : Run
  named = references_run k (row (view b) rules i)

  pub references_inside : named.first + named.count ≤ length ((view b).records references)
  references_inside = kind_references (view b) (stands b h.table).1 k i h.inside

  pub refers : (m : ℕ) → named.first ≤ m → m < named.first + named.count → Stored b references m × Refers b k m
  refers m low l =
      let at : named.first + (m - named.first) ≡ m = omega arith in
      let number = kind_number (view b) (stands b h.table).1 k i h.inside (m - named.first) (omega arith) in
      (record { table = h.table; inside = omega (arith, references_inside) }, record { inside = rw at at number })

-- a rule that names some groups
module _ (p : List ℕ → Bool) where
  belongs_list : (gs : List (List (List ℕ))) → (length gs ≡ 0 → ⊥) → belongs p gs ≡ any (λ m. any p m) gs
  belongs_list [] l = absurd (l refl)
  belongs_list (g ∷ gs) l = refl

  pub belongs_some :
      {A : Type 0} (f : A → List (List ℕ)) (r : Run) (xs : List A) → r.first + r.count ≤ length xs → 0 < r.count
      → belongs p (map f (part r xs)) ≡ any (λ m. any p m) (map f (part r xs))
  belongs_some f r xs h l = belongs_list (map f (part r xs)) (λ z. omega (arith, part_count r xs h, length-map (part r xs) f))
