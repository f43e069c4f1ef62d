-- The look-up finds exactly the part that holds the name of the letter's first input, in the group that answers.
use Rattle.std.specs.Prelude.{◌≡◌, true, List, ◌↔◌, ℕ, eqb}
use Rattle.std.proofs.Math.Path.{refl}
use Rattle.std.proofs.Common.{sym, ap, ◌∙◌, arith, eqb-true, eq-eqb}
use Rattle.std.proofs.Math.Option.{Option, none, some, map}
use Rattle.spec_lists.specs.Select.{first}
use Rattle.spec_rule.specs.Answering.{answering}
use Rattle.spec_rule.proofs.laws.Privilege.{answering_is}
use Rattle.spec_rule.proofs.laws.Such.{first_such, such_first}
use Rattle.spec_file.specs.Limit.{access_groups, inputs}
use Rattle.spec_table.specs.View.{view}
use Rattle.spec_table.specs.Table.{Table, letter_field}
use Rattle.spec_table.specs.Policy.{name}
use Rattle.spec_decision.specs.declared.Found.{Found}
use Rattle.spec_decision.specs.declared.Found.TheVariants.{Part, NotTable, NoInput}
use Rattle.spec_decision.specs.LookUp.{FirstInput, name_part, links_in, FindsInput, input_of, look_up}
use Rattle.spec_decision.proofs.laws.Found.{found_in, no_table_is, part_is, nothing_is}

module _ {G I A : Type 0} (name : G → List ℕ) (links : G → List I) (letter_of : I → ℕ) (what : I → A) (gs : List G) (g : List ℕ) (letter : ℕ) (a : A) where
  lettered : (i : I) → (eqb (letter_of i) letter ≡ true) ↔ (letter_of i ≡ letter)
  lettered i = (eqb-true (letter_of i) letter, eq-eqb (letter_of i) letter)

  -- input_from: the letter's first input in the group that answers, none where no group does
  pub first_input_is :
      (input_from : Option G → Option I) → input_from none ≡ none
      → ((x : G) → input_from (some x) ≡ first (λ i. eqb (letter_of i) letter) (links x))
      → (map what (input_from (answering name g gs)) ≡ some a) ↔ FirstInput name links letter_of what gs g letter a
  first_input_is input_from of_none of_group = (λ e. in_group (answering name g gs) refl e, complete)
    where
      found :
          (x : G) (o : Option I) → answering name g gs ≡ some x → first (λ i. eqb (letter_of i) letter) (links x) ≡ o → map what o ≡ some a
          → FirstInput name links letter_of what gs g letter a
      found x none h f e = let z : ◌≡◌ {A = ℕ} 0 1 = cc in absurd (omega arith)
      found x (some i) h f e =
          record {
            group = x;
            searched = (answering_is name g gs (some x)).0 h;
            input = i;
            first = first_such (λ j. eqb (letter_of j) letter) lettered (links x) i f;
            has = cc;
          }

      in_group :
          (o : Option G) → answering name g gs ≡ o → map what (input_from o) ≡ some a → FirstInput name links letter_of what gs g letter a
      in_group none h e = let y = rw of_none at e in let z : ◌≡◌ {A = ℕ} 0 1 = cc in absurd (omega arith)
      in_group (some x) h e = found x (first (λ i. eqb (letter_of i) letter) (links x)) h refl (ap (map what) (sym (of_group x)) ∙ e)

      complete : FirstInput name links letter_of what gs g letter a → map what (input_from (answering name g gs)) ≡ some a
      complete i =
          ap (λ (o : Option G). map what (input_from o)) ((answering_is name g gs (some i.group)).1 i.searched)
          ∙ ap (map what) (of_group i.group ∙ such_first (λ j. eqb (letter_of j) letter) lettered i.first)
          ∙ ap some i.has

module _ (b g : List ℕ) (letter : ℕ) where
  found_row : Option (List ℕ)
  found_row = input_of (view b) letter (answering (name (view b) access_groups) g ((view b).records access_groups))

  finds_is : (p : Found) → (map (name_part inputs b) found_row ≡ some p) ↔ FindsInput b g letter p
  unfolding found_row
  finds_is p =
      first_input_is
      (name (view b) access_groups)
      (links_in (view b))
      letter_field
      (name_part inputs b)
      ((view b).records access_groups)
      g
      letter
      p
      (input_of (view b) letter)
      refl
      (λ x. refl)

  looks : look_up b g letter ≡ found_in inputs b found_row
  unfolding look_up found_row
  looks = refl

  -- "20 comes before 21 and 22."
  pub no_table_found_is : (look_up b g letter ≡ NotTable) ↔ (Table b → ⊥)
  no_table_found_is = let t = no_table_is inputs b found_row in (λ e. t.0 (sym looks ∙ e), λ n. looks ∙ t.1 n)

  pub part_found_is : (at n : ℕ) → (look_up b g letter ≡ Part at n) ↔ (Table b × FindsInput b g letter (Part at n))
  part_found_is at n =
      let t = part_is inputs b found_row at n in
      let f = finds_is (Part at n) in
      (λ e. let h = t.0 (sym looks ∙ e) in (h.0, f.0 h.1), λ h. looks ∙ t.1 (h.0, f.1 h.1))

  no_row : (o : Option (List ℕ)) → ((p : Found) → map (name_part inputs b) o ≡ some p → ⊥) → o ≡ none
  no_row none n = refl
  no_row (some row) n = absurd (n (name_part inputs b row) refl)

  pub no_input_found_is : (look_up b g letter ≡ NoInput) ↔ (Table b × ((p : Found) → FindsInput b g letter p → ⊥))
  no_input_found_is =
      let t = nothing_is inputs b found_row in (
        λ e.
            let h = t.0 (sym looks ∙ e) in (
              h.0,
              λ p i. let z : none ≡ some p = ap (map (name_part inputs b)) (sym h.1) ∙ (finds_is p).1 i in let z : ◌≡◌ {A = ℕ} 0 1 = cc in omega arith,
            ),
        λ h. looks ∙ t.1 (h.0, no_row found_row (λ p e. h.1 p ((finds_is p).0 e))),
      )
