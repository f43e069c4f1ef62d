-- What is found in bytes: the part that holds a record's name, 22 where no record is found, 20 where they are no table. One law for the look-up and the walk.
use Rattle.std.specs.Prelude.{◌≡◌, refl, Bool, true, false, cond, List, ◌↔◌, ℕ}
use Rattle.std.proofs.Common.{sym, ap, arith}
use Rattle.std.proofs.Math.Option.{Option, none, some, map}
use Rattle.spec_file.specs.Limit.{Section}
use Rattle.spec_table.specs.Table.{Table}
use Rattle.spec_table.specs.Check.{is_table}
use Rattle.spec_table.proofs.laws.Table.{table_is}
use Rattle.spec_decision.specs.declared.Found.{Found}
use Rattle.spec_decision.specs.declared.Found.TheVariants.{Part, NotTable, NoInput}
use Rattle.spec_decision.specs.LookUp.{name_part, named_part}

module _ (s : Section) (b : List ℕ) where
  -- the name of a record that was found, in any bytes
  abbrev pub found_in : Option (List ℕ) → Found
  found_in o = cond (is_table b) (named_part s b o) NotTable

  part_sound : (o : Option (List ℕ)) (at n : ℕ) → named_part s b o ≡ Part at n → map (name_part s b) o ≡ some (Part at n)
  part_sound none at n e = let z : ◌≡◌ {A = ℕ} 0 1 = cc in absurd (omega arith)
  part_sound (some row) at n e = ap some e

  part_complete : (o : Option (List ℕ)) (p : Found) → map (name_part s b) o ≡ some p → named_part s b o ≡ p
  part_complete none p e = let z : ◌≡◌ {A = ℕ} 0 1 = cc in absurd (omega arith)
  part_complete (some row) p e = cc

  nothing_sound : (o : Option (List ℕ)) → named_part s b o ≡ NoInput → o ≡ none
  nothing_sound none e = refl
  nothing_sound (some row) e = let z : ◌≡◌ {A = ℕ} 0 1 = cc in absurd (omega arith)

  never_no_table : (o : Option (List ℕ)) → named_part s b o ≡ NotTable → ⊥
  never_no_table none e = let z : ◌≡◌ {A = ℕ} 0 1 = cc in omega arith
  never_no_table (some row) e = let z : ◌≡◌ {A = ℕ} 0 1 = cc in omega arith

  -- an answer that is not NotTable is a table's
  on_table : (o : Option (List ℕ)) (f : Found) → (f ≡ NotTable → ⊥) → (found_in o ≡ f) ↔ (Table b × (named_part s b o ≡ f))
  on_table o f n = (λ e. sound (is_table b) refl e, λ h. rw ((table_is b).1 h.0) h.1)
    where
      sound : (t : Bool) → is_table b ≡ t → cond t (named_part s b o) NotTable ≡ f → Table b × (named_part s b o ≡ f)
      sound true h e = ((table_is b).0 h, e)
      sound false h e = absurd (n (sym e))

  pub no_table_is : (o : Option (List ℕ)) → (found_in o ≡ NotTable) ↔ (Table b → ⊥)
  no_table_is o = (λ e t. never_no_table o (rw ((table_is b).1 t) at e), λ n. complete (is_table b) refl n)
    where
      complete : (t : Bool) → is_table b ≡ t → (Table b → ⊥) → cond t (named_part s b o) NotTable ≡ NotTable
      complete true h n = absurd (n ((table_is b).0 h))
      complete false h n = refl

  pub part_is : (o : Option (List ℕ)) (at n : ℕ) → (found_in o ≡ Part at n) ↔ (Table b × (map (name_part s b) o ≡ some (Part at n)))
  part_is o at n =
      let t = on_table o (Part at n) (λ e. let z : ◌≡◌ {A = ℕ} 0 1 = cc in omega arith) in
      (λ e. ((t.0 e).0, part_sound o at n (t.0 e).1), λ h. t.1 (h.0, part_complete o (Part at n) h.1))

  pub nothing_is : (o : Option (List ℕ)) → (found_in o ≡ NoInput) ↔ (Table b × (o ≡ none))
  nothing_is o =
      let t = on_table o NoInput (λ e. let z : ◌≡◌ {A = ℕ} 0 1 = cc in omega arith) in
      (λ e. ((t.0 e).0, nothing_sound o (t.0 e).1), λ h. t.1 (h.0, ap (named_part s b) h.1))
