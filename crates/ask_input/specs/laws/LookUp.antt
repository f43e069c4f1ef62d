-- The look-up, from the input that a search finds.
use Rattle.std.specs.Prelude.{◌≡◌, true, false, List, ℕ}
use Rattle.std.proofs.Common.{sym, ap, subst, ◌∙◌}
use Rattle.std.proofs.Math.Option.{Option, none, some}
use Rattle.spec_file.specs.Limit.{access_groups, inputs}
use Rattle.spec_table.specs.View.{view}
use Rattle.spec_table.specs.Check.{is_table, name_run}
use Rattle.spec_table.specs.Policy.{name, row}
use Rattle.spec_table.proofs.laws.Fields.{string_at, strings_count}
use Rattle.spec_table.proofs.laws.Standing.{stands, name_within}
use Rattle.spec_decision.specs.declared.Found.{Found}
use Rattle.spec_decision.specs.declared.Found.TheVariants as found
use Rattle.spec_decision.specs.LookUp.{part_in, name_part, input_of, named_part, look_up}
use Rattle.spec_decision.specs.Groups.{answering_number}
use Rattle.table_read.specs.Search.{Index}
use Rattle.std.specs.Prelude.{Some, None}
use Rattle.table_read.specs.Search.{Finds, not_found, index_of, group_for}
use Rattle.table_read.specs.laws.Search.{finds_at, finds_none, finds_answering}
use Rattle.ask_input.specs.Input.{FindsLetter}

module _ (b g : List ℕ) (l : ℕ) where
  pub look_not : is_table b ≡ false → look_up b g l ≡ found.NotTable
  unfolding look_up
  look_not h = rw h

  pub input_missing : {r : Index} → r ≡ index_of (answering_number b g) → r ≡ None → FindsLetter b g l None
  input_missing f e =
      subst (λ (o : Option (List ℕ)). Finds ((view b).records inputs) (input_of (view b) l o) None) (sym (finds_none (finds_answering b g f) e)) not_found

  pub input_found :
      {r p : Index} {x : ℕ} (i : ℕ) → r ≡ index_of (answering_number b g) → r ≡ Some i → x ≡ l
      → Finds ((view b).records inputs) (input_of (view b) x (some (row (view b) access_groups i))) p
      → FindsLetter b g l p
  input_found {r} {p} i f e y d =
      subst
      (λ (o : Option (List ℕ)). Finds ((view b).records inputs) (input_of (view b) l o) p)
      (sym (finds_at i (finds_answering b g f) e).0)
      (rw y at d)

  module _ (h : is_table b ≡ true) where
    pub look_none : {r : Index} → FindsLetter b g l r → r ≡ None → look_up b g l ≡ found.NoInput
    unfolding look_up
    look_none f e =
        let z : input_of (view b) l (group_for b g) ≡ none = finds_none f e in
        rw h (ap (named_part inputs b) z)

    pub look_found :
        {r : Index} (i : ℕ) → FindsLetter b g l r → r ≡ Some i
        → look_up b g l ≡ name_part inputs b (row (view b) inputs i)
    unfolding look_up
    look_found i f e =
        let z : input_of (view b) l (group_for b g) ≡ some (row (view b) inputs i) = (finds_at i f e).0 in
        rw h (ap (named_part inputs b) z)

    -- the part of the table is the name
    pub part_found : {r : Index} (i : ℕ) → FindsLetter b g l r → r ≡ Some i → name (view b) inputs (row (view b) inputs i) ≡ part_in (look_up b g l) b
    part_found i f e =
        let s = stands b h in
        let w = name_within (view b) s.1 inputs i (finds_at i f e).1 in
        string_at b s.0 (name_run inputs (row (view b) inputs i)) (rw (strings_count b s.0) at w)
        ∙ ap (λ (x : Found). part_in x b) (sym (look_found i f e))
