-- A reading is refused or set, as the code goes by its tests.
use Rattle.std.specs.Prelude.{◌≡◌, refl, Bool, true, false, cond, not, List, ℕ, ◌≤◌, Float, length}
use Rattle.std.proofs.Common.{sym, ap, ap₂, ◌∙◌, leb-true}
use Rattle.std.proofs.Math.Option.{Option, none, some}
use Rattle.spec_calc.specs.declared.Reading.{Reading}
use Rattle.spec_file.specs.Limit.{access_groups}
use Rattle.spec_table.specs.View.{view}
use Rattle.spec_table.specs.Check.{is_table}
use Rattle.spec_table.specs.Policy.{row}
use Rattle.spec_decision.specs.Groups.{Numbered, group_named}
use Rattle.spec_register.specs.Register.{most_clients}
use Rattle.spec_register.specs.Refusal.{no_input, set_refusal}
use Rattle.spec_register.specs.declared.Changed.{Changed}
use Rattle.spec_register.specs.declared.Changed.TheVariants as changed
use Rattle.spec_register.specs.declared.Refused.{Refused}
use Rattle.spec_register.specs.declared.Refused.TheVariants.{NotRegister, NotTable, NoInput}
use Rattle.spec_register.specs.Calls.{unless, changed_or}
use Rattle.spec_register.proofs.laws.Input.{letter_few}
use Rattle.spec_places.specs.Storage.{Lent, lent, places_bytes, all_readings, readings_in}
use Rattle.spec_places.specs.Writing.{each, renewed}
use Rattle.spec_places.specs.Calls.{is_register, told_set, left_set, with_reading_in, differing_in}
use Rattle.spec_places.proofs.laws.Settled.{has_places, has_states, has_values}
use Rattle.table_read.specs.Search.{Index}
use Rattle.std.specs.Prelude.{Some, None}
use Rattle.table_read.specs.Search.{index_of, number_full, FindsInput}
use Rattle.table_read.specs.laws.Search.{group_none, group_at, group_stored, input_there, input_absent}
use Rattle.reg_set.specs.Set.{InputOf, ReadingSet, Given}

-- ---- the search

module _ (t n : List ℕ) (letter : ℕ) {g : Index} (e : g ≡ index_of (number_full t n)) where
  pub no_group : g ≡ None → no_input t letter (group_named t n) ≡ true
  no_group f = ap (no_input t letter) (group_none t n e f)

  module _ (i : ℕ) (f : g ≡ Some i) where
    pub no_letter : {w : ℕ} {r : Index} → w ≡ letter → FindsInput t i w r → r ≡ None → no_input t letter (group_named t n) ≡ true
    no_letter z s m = ap (no_input t letter) (group_at t n i e f) ∙ ap not (input_absent t i letter (rw z at s) m)

    pub input_of : {w : ℕ} {r : Index} (j : ℕ) → is_table t ≡ true → w ≡ letter → FindsInput t i w r → r ≡ Some j → InputOf t n letter i
    input_of j h z s m =
        let there = input_there t i letter j (rw z at s) m in
        record {
          named = group_at t n i e f;
          given = ap (no_input t letter) (group_at t n i e f) ∙ ap not there;
          stored = group_stored t n i e f h;
          lettered = letter_few t (row (view t) access_groups i) letter h there;
        }

-- ---- the call

same_lent : {a b : Lent} → a.table ≡ b.table → a.places ≡ b.places → a.states ≡ b.states → a.values ≡ b.values → a ≡ b
same_lent {a} {b} e f g h =
    ap₂ (λ (t p : List ℕ). lent t p a.states a.values) e f
    ∙ ap₂ (λ (u : List ℕ) (v : List Float). lent b.table b.places u v) g h

module _ (s : Lent) (n : List ℕ) (letter : ℕ) (x : Reading) where
  abbrev pub SetGiven : Changed → Lent → Type 0
  SetGiven = Given (told_set s n letter x) (left_set s n letter x)

  pub set_short : is_register s ≡ false → SetGiven (changed.Refused NotRegister) s
  set_short h = rw h (record { answers = refl; leaves = refl })

  module _ (h : is_register s ≡ true) where
    refused : (r : Refused) → set_refusal s.table n letter ≡ some r → SetGiven (changed.Refused r) s
    refused r e = rw (h, e) (record { answers = refl; leaves = refl })

    pub set_no_table : is_table s.table ≡ false → SetGiven (changed.Refused NotTable) s
    set_no_table t = refused NotTable (rw t)

    module _ (t : is_table s.table ≡ true) where
      pub set_no_input : no_input s.table letter (group_named s.table n) ≡ true → SetGiven (changed.Refused NoInput) s
      set_no_input e = refused NoInput (rw (t, e))

      module _ {after : Lent} {i m : ℕ} (k : InputOf s.table n letter i) (w : ReadingSet s i letter x after m) where
        allowed : set_refusal s.table n letter ≡ none
        allowed = rw (t, k.given)

        made : after.table ≡ s.table → after ≡ with_reading_in s (some (record { number = i; row = row (view s.table) access_groups i })) letter x
        made z =
            same_lent
            z
            (w.renewed.left
            ∙ ap₂
            (λ (u : List ℕ) (v : List Float). each (renewed s.table i (readings_in u v i)) most_clients s.places)
            w.states
            w.values)
            w.states
            w.values

        left_is : left_set s n letter x ≡ with_reading_in s (group_named s.table n) letter x
        left_is =
            ap₂ (λ (b : Bool) (o : Option Refused). cond b (unless o (with_reading_in s (group_named s.table n) letter x) s) s) h allowed

        told_is : told_set s n letter x ≡ changed.Places (differing_in s.places (left_set s n letter x).places)
        told_is =
            ap₂
            (λ (b : Bool) (o : Option Refused).
            cond b (changed_or o (differing_in s.places (left_set s n letter x).places)) (changed.Refused NotRegister))
            h
            allowed

        pub set_done : after.table ≡ s.table → SetGiven (changed.Places m) after
        set_done z =
            let leaves : after ≡ left_set s n letter x =
            made z ∙ sym (left_is ∙ ap (λ (o : Option Numbered). with_reading_in s o letter x) k.named) in
            record {
              answers =
                  ap changed.Places (w.renewed.changed ∙ ap (λ (a : Lent). differing_in s.places a.places) leaves) ∙ sym told_is;
              leaves = leaves;
            }

-- ---- its room

pub record Roomy (s : Lent) : Type 0 where
  pub places : places_bytes ≤ length s.places
  pub states : all_readings ≤ length s.states
  pub values : all_readings ≤ length s.values

pub roomy : (s : Lent) → is_register s ≡ true → Roomy s
roomy s h =
    record {
      places = leb-true places_bytes (length s.places) (has_places s h);
      states = leb-true all_readings (length s.states) (has_states s h);
      values = leb-true all_readings (length s.values) (has_values s h);
    }
