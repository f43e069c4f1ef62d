-- A call that is no load goes by the table and not by what stands behind it: it looks at the bytes through is_table and view only.
use Rattle.std.specs.Prelude.{◌≡◌, Bool, true, false, cond, not, ℕ, suc, ◌+◌, ◌*◌, eqb, Float, get_or, set}
use Rattle.std.proofs.Math.Path.{refl, ap, ap₂, fun_ext}
use Rattle.std.proofs.Common.{◌∙◌}
use mathlib.Core.List.{List, [], ◌∷◌, map}
use Rattle.std.proofs.Math.Option
use Rattle.std.proofs.Math.Option.{Option, none, some}
use Rattle.std.proofs.lemmas.List.Edits.{sets}
use Rattle.spec_lists.specs.Select.{any, first_if}
use Rattle.spec_calc.specs.declared.Reading.{Reading}
use Rattle.spec_calc.specs.Value.{heard}
use Rattle.spec_rule.specs.Rule.{Rule, stands}
use Rattle.spec_rule.specs.Decision.{decision_by}
use Rattle.spec_rule.specs.Answering.{named, answering}
use Rattle.spec_rule.specs.Kept.{bit}
use Rattle.spec_rule.specs.Number.{decision_number}
use Rattle.spec_file.specs.Limit.{access_groups}
use Rattle.spec_table.specs.Layout.{Content}
use Rattle.spec_table.specs.View.{view}
use Rattle.spec_table.specs.Table.{letter_field}
use Rattle.spec_table.specs.Check.{is_table}
use Rattle.spec_table.specs.Policy.{name, rules_of, row}
use Rattle.spec_decision.specs.LookUp.{links_in}
use Rattle.spec_decision.specs.Groups.{Numbered, numbered, full_name, group_named, answering_number}
use Rattle.spec_register.specs.declared.Refused.{Refused}
use Rattle.spec_register.specs.declared.Refused.TheVariants.{NotTable, NoInput, NotRegister}
use Rattle.spec_register.specs.declared.Added.TheVariants as added
use Rattle.spec_register.specs.declared.Changed.TheVariants as changed
use Rattle.spec_register.specs.Register.{Client, never_heard, most_clients, letters}
use Rattle.spec_register.specs.Refusal.{no_input, add_refusal, change_refusal, set_refusal}
use Rattle.spec_register.specs.Calls.{Call, add, change, remove, set_reading, load_again, unless, client_added, rights_changed, added_at, changed_or}
use Rattle.spec_places.specs.Storage.{Lent, lent, at_place, client_bytes, kept_at, nothing_kept, client_in, standing_in, readings_in}
use Rattle.spec_places.specs.Writing.{asked, rules_at, kept_by, kept, entered, each, kept_right, renewed, settled_client, settled, state_of}
use Rattle.spec_places.specs.Calls.{is_register, free_in, differing_in, with_reading_in, told_added, places_added, told_changed, places_changed, left, told}

-- lent storage but for the table
abbrev pub but_table : Lent → Lent
but_table s = lent [] s.places s.states s.values

-- two tables of one content
module _ (t u : List ℕ) (same_test : is_table t ≡ is_table u) (same_view : view t ≡ view u) where
  rules_same : (i : ℕ) → rules_at t i ≡ rules_at u i
  rules_same i = ap (λ (x : Content). rules_of x (row x access_groups i)) same_view

  answering_same : (n : List ℕ) → answering_number t n ≡ answering_number u n
  answering_same n =
      ap
      (λ (x : Content). Option.map (λ g. g.number) (answering (λ (g : Numbered). name x access_groups g.row) n (numbered 0 (x.records access_groups))))
      same_view

  named_same : (n : List ℕ) → group_named t n ≡ group_named u n
  named_same n =
      ap
      (λ (x : Content). named (λ (g : Numbered). name x access_groups g.row) (full_name n) (numbered 0 (x.records access_groups)))
      same_view

  -- ---- what is written

  kept_by_same : (rs : ℕ → List Reading) (c : Client) (o : Option ℕ) → kept_by t rs c o ≡ kept_by u rs c o
  kept_by_same rs c none = refl
  kept_by_same rs c (some i) =
      ap
      (λ (rules : List Rule). suc i ∷ decision_number (decision_by (asked c (rs i)) rules) ∷ map (λ r. bit (stands (asked c (rs i)) r)) rules)
      (rules_same i)

  pub kept_same : (rs : ℕ → List Reading) (c : Client) → kept t rs c ≡ kept u rs c
  kept_same rs c =
      ap₂
      (λ (x : Bool) (k : List ℕ). cond x k nothing_kept)
      same_test
      (kept_by_same rs c (answering_number t c.group) ∙ ap (kept_by u rs c) (answering_same c.group))

  entered_same : (rs : ℕ → List Reading) (b : List ℕ) (p : ℕ) (c : Client) → entered t rs b p c ≡ entered u rs b p c
  entered_same rs b p c = ap (λ (k : List ℕ). sets (sets b (at_place p) (client_bytes c)) (kept_at p) k) (kept_same rs c)

  renewed_same :
      (i : ℕ) (rs : List Reading) (b : List ℕ) → each (renewed t i rs) most_clients b ≡ each (renewed u i rs) most_clients b
  renewed_same i rs b =
      ap
      (λ (rules : List Rule).
      each (λ c p. cond (eqb (get_or c (kept_at p) 0) (suc i)) (set c (kept_at p + 1) (kept_right rules rs c p)) c) most_clients b)
      (rules_same i)

  settled_client_same : (b : List ℕ) (p : ℕ) (o : Option Client) → settled_client t b p o ≡ settled_client u b p o
  settled_client_same b p none = refl
  settled_client_same b p (some c) = ap (sets b (kept_at p)) (kept_same (λ i. never_heard) c)

  pub settled_same : (b : List ℕ) → each (settled t) most_clients b ≡ each (settled u) most_clients b
  settled_same b =
      ap
      (λ (f : List ℕ → ℕ → List ℕ). each f most_clients b)
      (fun_ext (λ c. fun_ext (λ p. settled_client_same c p (client_in c p))))

  -- ---- what is refused

  no_input_same : (letter : ℕ) (o : Option Numbered) → no_input t letter o ≡ no_input u letter o
  no_input_same letter none = refl
  no_input_same letter (some g) =
      ap (λ (x : Content). not (any (λ i. eqb (letter_field i) letter) (links_in x g.row))) same_view

  refusal_same : (n : List ℕ) (letter : ℕ) → set_refusal t n letter ≡ set_refusal u n letter
  refusal_same n letter =
      ap₂
      (λ (x y : Bool). first_if (not x) NotTable (first_if y NoInput none))
      same_test
      (no_input_same letter (group_named t n) ∙ ap (no_input u letter) (named_same n))

  -- ---- each call

  module _ (b st : List ℕ) (v : List Float) where
    abbrev over : List ℕ → Lent
    over x = lent x b st v

    abbrev enough : Bool
    enough = is_register (over t)

    put_same :
        (o : Option Refused) (p : ℕ) (c : Client)
        → cond enough (unless o (entered t (readings_in st v) b p c) b) b ≡ cond enough (unless o (entered u (readings_in st v) b p c) b) b
    put_same o p c = ap (λ (x : List ℕ). cond enough (unless o x b) b) (entered_same (readings_in st v) b p c)

    reading_same :
        (x : Bool) (o : Option Refused) (g : Option Numbered) (letter : ℕ) (r : Reading)
        → but_table (cond x (unless o (with_reading_in (over t) g letter r) (over t)) (over t))
        ≡ but_table (cond x (unless o (with_reading_in (over u) g letter r) (over u)) (over u))
    reading_same true none none letter r = refl
    reading_same true none (some g) letter r =
        let i = g.number * letters + letter in
        let states = set st i (state_of r) in
        let values = set v i (heard r) in
        ap (λ (x : List ℕ). lent [] x states values) (renewed_same g.number _ b)
    reading_same true (some y) g letter r = refl
    reading_same false o g letter r = refl

    pub same_left : (c : Call) → ((text : List ℕ) → c ≡ load_again text → ⊥) → but_table (left (over t) c) ≡ but_table (left (over u) c)
    unfolding places_added places_changed
    same_left (add c) n = ap (λ (x : List ℕ). lent [] x st v) (put_same (add_refusal (standing_in b) c) (free_in b) c)
    same_left (change p c) n = ap (λ (x : List ℕ). lent [] x st v) (put_same (change_refusal (standing_in b) p c) p c)
    same_left (remove p) n = refl
    same_left (set_reading g letter r) n =
        reading_same enough (set_refusal t g letter) (group_named t g) letter r
        ∙ ap₂
        (λ (o : Option Refused) (k : Option Numbered). but_table (cond enough (unless o (with_reading_in (over u) k letter r) (over u)) (over u)))
        (refusal_same g letter)
        (named_same g)
    same_left (load_again text) n = absurd (n text refl)

    pub same_told : (c : Call) → ((text : List ℕ) → c ≡ load_again text → ⊥) → told (over t) c ≡ told (over u) c
    unfolding told_added places_added told_changed places_changed
    same_told (add c) n =
        let o = add_refusal (standing_in b) c in
        ap
        (λ (x : List ℕ). client_added (cond enough (added_at o (free_in b) (differing_in b x)) (added.Refused NotRegister)))
        (put_same o (free_in b) c)
    same_told (change p c) n =
        let o = change_refusal (standing_in b) p c in
        ap (λ (x : List ℕ). rights_changed (cond enough (changed_or o (differing_in b x)) (changed.Refused NotRegister))) (put_same o p c)
    same_told (remove p) n = refl
    same_told (set_reading g letter r) n =
        ap₂
        (λ (o : Option Refused) (x : List ℕ). rights_changed (cond enough (changed_or o (differing_in b x)) (changed.Refused NotRegister)))
        (refusal_same g letter)
        (ap (λ (l : Lent). l.places) (same_left (set_reading g letter r) n))
    same_told (load_again text) n = absurd (n text refl)
