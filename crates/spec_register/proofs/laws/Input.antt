-- A reading that may be set is one of a table's: its group has a number below 64, its letter one below 21.
use Rattle.std.specs.Prelude.{◌≡◌, refl, Bool, true, false, not, ◌||◌, List, ℕ, ◌<◌, eqb, leb}
use Rattle.std.proofs.lemmas.Bool.{false≢true}
use Rattle.std.proofs.Math.Option.{Option, none, some}
use Rattle.std.proofs.Common.{arith, leb-true, eqb-true}
use Rattle.spec_lists.specs.Every.{Every, nil, cons}
use Rattle.spec_lists.specs.Select.{any, first_if}
use Rattle.spec_lists.proofs.laws.Every.{every_implies, every_take, every_drop, all_every}
use Rattle.spec_file.specs.Limit.{access_groups, inputs, most}
use Rattle.spec_table.specs.View.{view}
use Rattle.spec_table.specs.Table.{inputs_run, letter_field}
use Rattle.spec_table.specs.Check.{is_table}
use Rattle.spec_table.proofs.laws.Standing.{stands, records_few}
use Rattle.spec_table.proofs.laws.Table.{table_is}
use Rattle.spec_decision.specs.LookUp.{links_in}
use Rattle.spec_decision.specs.Groups.{Numbered, group_named}
use Rattle.spec_decision.proofs.laws.Groups.{OfTable, group_stands}
use Rattle.spec_register.specs.declared.Refused.{Refused}
use Rattle.spec_register.specs.declared.Refused.TheVariants.{NotTable, NoInput}
use Rattle.spec_register.specs.Register.{letters}
use Rattle.spec_register.specs.Refusal.{no_input, set_refusal}

-- a table has at most 64 access groups
pub number_few : (t : List ℕ) (g : Numbered) → is_table t ≡ true → OfTable t g → g.number < most access_groups
number_few t g h o = omega (arith, o.inside, records_few (view t) (stands t h).1 access_groups)

-- some row has the letter
abbrev pub has_letter : ℕ → List (List ℕ) → Bool
has_letter letter rows = any (λ i. eqb (letter_field i) letter) rows

found_few : (letter : ℕ) {rows : List (List ℕ)} → Every (λ row. letter_field row < letters) rows → has_letter letter rows ≡ true → letter < letters
found_few letter nil e = absurd (false≢true e)
found_few letter (cons {x = row} {xs = rows} h c) e = by (eqb (letter_field row) letter) refl (found_few letter c) e
  where
    by :
        (b : Bool) → eqb (letter_field row) letter ≡ b → (has_letter letter rows ≡ true → letter < letters) → b || has_letter letter rows ≡ true
        → letter < letters
    by true f later g = omega (arith, eqb-true (letter_field row) letter f)
    by false f later g = later g

-- its inputs have letters from A to U
pub letter_few : (t row : List ℕ) (letter : ℕ) → is_table t ≡ true → has_letter letter (links_in (view t) row) ≡ true → letter < letters
letter_few t row letter h e =
    let r = inputs_run row in
    let few : (x : List ℕ) → leb (letter_field x) 20 ≡ true → letter_field x < letters = λ x l. omega (arith, leb-true (letter_field x) 20 l) in
    let each = every_implies few (all_every (λ x. leb (letter_field x) 20) ((view t).records inputs) ((table_is t).0 h).letters) in
    found_few letter (every_take r.count (every_drop r.first each)) e

-- a reading that may be set
pub record Settable (t n : List ℕ) (letter : ℕ) (g : Numbered) : Type 0 where
  pub table : is_table t ≡ true
  pub named : group_named t n ≡ some g
  pub number : g.number < most access_groups
  pub lettered : letter < letters

pub settable : (t n : List ℕ) (letter : ℕ) → set_refusal t n letter ≡ none → (g : Numbered) × Settable t n letter g
settable t n letter e = on (is_table t) refl e
  where
    never : {A : Type 0} {x : Refused} → some x ≡ none → A
    never z = let w : ◌≡◌ {A = ℕ} 0 1 = cc in absurd (omega arith)

    known :
        (g : Numbered) → is_table t ≡ true → group_named t n ≡ some g → (b : Bool) → has_letter letter (links_in (view t) g.row) ≡ b
        → first_if (not b) NoInput none ≡ none → (h : Numbered) × Settable t n letter h
    known g i f true a z =
        (g, record { table = i; named = f; number = number_few t g i (group_stands t n g f); lettered = letter_few t g.row letter i a })
    known g i f false a z = never z

    by :
        is_table t ≡ true → (o : Option Numbered) → group_named t n ≡ o → first_if (no_input t letter o) NoInput none ≡ none
        → (g : Numbered) × Settable t n letter g
    by i none f z = never z
    by i (some g) f z = known g i f (has_letter letter (links_in (view t) g.row)) refl z

    on :
        (b : Bool) → is_table t ≡ b → first_if (not b) NotTable (first_if (no_input t letter (group_named t n)) NoInput none) ≡ none
        → (g : Numbered) × Settable t n letter g
    on true i z = by i (group_named t n) refl z
    on false i z = never z
