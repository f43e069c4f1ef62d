-- When a call is refused, with which number, and that it leaves what there was.
use Rattle.std.specs.Prelude.{◌≡◌, refl, Bool, true, false, not, List, [], ◌∷◌, ◌↔◌, ◌⊎◌, ℕ, ◌<◌, leb, eqb, length}
use Rattle.std.proofs.Common.{sym, ap, subst, ◌∙◌, inl, inr, arith, leb-true, leb-false, eqb-true, eq-eqb}
use Rattle.std.proofs.lemmas.Bool.{false≢true, lt-leb, not-true}
use Rattle.std.proofs.Math.Option.{Option, none, some, map}
use Rattle.spec_lists.specs.Text.{same}
use Rattle.spec_lists.specs.Select.{any, first_if, missing}
use Rattle.spec_calc.specs.declared.Reading.{Reading}
use Rattle.spec_rule.specs.Privilege.{Some}
use Rattle.spec_rule.specs.Answering.{greatest_level}
use Rattle.spec_rule.proofs.laws.Privilege.{named_is}
use Rattle.spec_rule.proofs.laws.Such.{any_some, some_any, first_such, such_first}
use Rattle.spec_file.specs.Limit.{longest_name}
use Rattle.spec_table.specs.View.{view}
use Rattle.spec_table.specs.Table.{letter_field}
use Rattle.spec_table.specs.Check.{is_table}
use Rattle.spec_table.proofs.laws.Table.{table_is}
use Rattle.spec_decision.specs.LookUp.{links_in}
use Rattle.spec_decision.specs.Groups.{Numbered, full_name, groups_of, group_name, group_named}
use Rattle.spec_load.specs.declared.Loaded.{Loaded}
use Rattle.spec_load.specs.declared.Loaded.TheVariants as loaded
use Rattle.spec_load.specs.Load.{is_accepted, load}
use Rattle.spec_load.proofs.laws.Load.{refused_leaves}
use Rattle.spec_register.specs.declared.Refused.{Refused}
use Rattle.spec_register.specs.Register.{Client, Register, client_at, with_client}
use Rattle.spec_register.specs.Refusal.{number, Test, test, first_of, long_name, bad_level, lowest_free, all_taken, no_input}
use Rattle.spec_register.specs.Refusal.{add_refusal, change_refusal, remove_refusal, set_refusal}
use Rattle.spec_register.specs.Calls.{Gateway, Call, add, change, remove, set_reading, load_again, after_load, after}
use Rattle.spec_register.specs.Calls.{client_added, rights_changed, table_loaded, added_at, changed_or}
use Rattle.spec_register.specs.Calls.{reloaded_as, answer, refusal_of, changed_by, unless, reading_set}
use Rattle.spec_register.specs.Sentences.{Sized, NotRefused, Named, HasLongName, HasBadLevel, AllTaken, HasInput, Cause, on, FirstApplies}
use Rattle.spec_register.specs.Sentences.{add_causes, change_causes, remove_causes, set_causes}
use Rattle.spec_register.proofs.laws.Lowest.{lowest_within, lowest_is_free, lower_is_taken, none_some}

-- ---- the number in an answer

pub added_told : (o : Option Refused) (p m : ℕ) → refusal_of (client_added (added_at o p m)) ≡ map number o
added_told none p m = refl
added_told (some x) p m = refl

pub changed_told : (o : Option Refused) (m : ℕ) → refusal_of (rights_changed (changed_or o m)) ≡ map number o
changed_told none m = refl
changed_told (some x) m = refl

none_told : {a : Option ℕ} (o : Option Refused) → a ≡ map number o → (a ≡ none) ↔ (o ≡ none)
none_told o e = (λ h. by o (sym e ∙ h), λ h. e ∙ ap (map number) h)
  where
    by : (k : Option Refused) → map number k ≡ none → k ≡ none
    by none h = refl
    by (some x) h = none_some h refl

module _ (g : Gateway) where
  add_told : (c : Client) → refusal_of (answer g (add c)) ≡ map number (add_refusal g.register c)
  add_told c = added_told (add_refusal g.register c) (lowest_free g.register.clients) (changed_by g (add c))

  change_told : (p : ℕ) (c : Client) → refusal_of (answer g (change p c)) ≡ map number (change_refusal g.register p c)
  change_told p c = changed_told (change_refusal g.register p c) (changed_by g (change p c))

  remove_told : (p : ℕ) → refusal_of (answer g (remove p)) ≡ map number (remove_refusal g.register p)
  remove_told p = changed_told (remove_refusal g.register p) (changed_by g (remove p))

  set_told : (n : List ℕ) (letter : ℕ) (x : Reading) → refusal_of (answer g (set_reading n letter x)) ≡ map number (set_refusal g.table n letter)
  set_told n letter x = changed_told (set_refusal g.table n letter) (changed_by g (set_reading n letter x))

  pub add_done : (c : Client) → NotRefused g (add c) ↔ (add_refusal g.register c ≡ none)
  add_done c = none_told (add_refusal g.register c) (add_told c)

  pub change_done : (p : ℕ) (c : Client) → NotRefused g (change p c) ↔ (change_refusal g.register p c ≡ none)
  change_done p c = none_told (change_refusal g.register p c) (change_told p c)

  pub remove_done : (p : ℕ) → NotRefused g (remove p) ↔ (remove_refusal g.register p ≡ none)
  remove_done p = none_told (remove_refusal g.register p) (remove_told p)

  pub set_done : (n : List ℕ) (letter : ℕ) (x : Reading) → NotRefused g (set_reading n letter x) ↔ (set_refusal g.table n letter ≡ none)
  set_done n letter x = none_told (set_refusal g.table n letter) (set_told n letter x)

  pub load_done : (s : List ℕ) → NotRefused g (load_again s) ↔ (is_accepted (load g.table s).answer ≡ true)
  load_done s = by (load g.table s).answer
    where
      by : (a : Loaded) → (refusal_of (table_loaded (reloaded_as a (changed_by g (load_again s)))) ≡ none) ↔ (is_accepted a ≡ true)
      by (loaded.Accepted n w) = (λ e. refl, λ e. refl)
      by (loaded.Refused x p) = (λ e. let z : ◌≡◌ {A = ℕ} 0 1 = cc in absurd (omega arith), λ e. absurd (false≢true e))

-- ---- a refused call leaves what there was

stays_unless : {A : Type 0} (o : Option Refused) (done left : A) (n : ℕ) → map number o ≡ some n → unless o done left ≡ left
stays_unless none done left n e = let z : ◌≡◌ {A = ℕ} 0 1 = cc in absurd (omega arith)
stays_unless (some x) done left n e = refl

-- 01: "A refused call changes no lent byte and no state"
pub refused_call_leaves : (g : Gateway) (c : Call) (n : ℕ) → refusal_of (answer g c) ≡ some n → after g c ≡ g
refused_call_leaves g (add c) n e =
    let r = g.register in
    let same = stays_unless (add_refusal r c) (with_client r (lowest_free r.clients) (some c)) r n (sym (add_told g c) ∙ e) in
    ap (λ (q : Register). record { table = g.table; register = q }) same
refused_call_leaves g (change p c) n e =
    let r = g.register in
    let same = stays_unless (change_refusal r p c) (with_client r p (some c)) r n (sym (change_told g p c) ∙ e) in
    ap (λ (q : Register). record { table = g.table; register = q }) same
refused_call_leaves g (remove p) n e =
    let r = g.register in
    let same = stays_unless (remove_refusal r p) (with_client r p none) r n (sym (remove_told g p) ∙ e) in
    ap (λ (q : Register). record { table = g.table; register = q }) same
refused_call_leaves g (set_reading m letter x) n e =
    let r = g.register in
    let same = stays_unless (set_refusal g.table m letter) (reading_set r (group_named g.table m) letter x) r n (sym (set_told g m letter x) ∙ e) in
    ap (λ (q : Register). record { table = g.table; register = q }) same
refused_call_leaves g (load_again s) n e = by (load g.table s).answer (refused_leaves g.table s) e
  where
    by :
        (a : Loaded) → (is_accepted a ≡ false → (load g.table s).bytes ≡ g.table)
        → refusal_of (table_loaded (reloaded_as a (changed_by g (load_again s)))) ≡ some n
        → ◌≡◌ {A = Gateway} (record { table = (load g.table s).bytes; register = after_load a g.register }) g
    by (loaded.Accepted k w) same h = let z : ◌≡◌ {A = ℕ} 0 1 = cc in absurd (omega arith)
    by (loaded.Refused x p) same h = ap (λ (b : List ℕ). record { table = b; register = g.register }) (same refl)

-- ---- causes in their order

-- tests that decide causes, one for one
data Decide : List Test → List Cause → Type 1 where
  nil : Decide [] []
  cons :
      {b : Bool} {x : Refused} {A : Type 0} {ts : List Test} {cs : List Cause} → (b ≡ true) ↔ A → Decide ts cs
      → Decide (test b x ∷ ts) (on (number x) A ∷ cs)

first_is : {ts : List Test} {cs : List Cause} → Decide ts cs → (o : Option ℕ) → (map number (first_of ts) ≡ o) ↔ FirstApplies cs o
first_is nil o = (sym, sym)
first_is (cons {b = b} {x = x} {A = A} {ts = ts} {cs = cs} d ds) o = by b d (first_is ds o)
  where
    by :
        (t : Bool) → (t ≡ true) ↔ A → (map number (first_of ts) ≡ o) ↔ FirstApplies cs o
        → (map number (first_if t x (first_of ts)) ≡ o) ↔ ((A × (o ≡ some (number x))) ⊎ ((A → ⊥) × FirstApplies cs o))
    by true h rest = (λ e. inl (h.0 refl, sym e), λ y. elim y [ inl a ↦ sym a.1 | inr a ↦ absurd (a.0 (h.0 refl)) ])
    by false h rest = (
      λ e. inr (λ a. false≢true (h.1 a), rest.0 e),
      λ y. elim y [ inl a ↦ absurd (false≢true (h.1 a.0)) | inr a ↦ rest.1 a.1 ],
    )

-- ---- each test decides its cause

over : (m n : ℕ) → (not (leb n m) ≡ true) ↔ (m < n)
over m n = (λ e. leb-false n m (not-true (leb n m) e), λ h. ap not (lt-leb n m h))

long_name_is : (c : Client) → (long_name c ≡ true) ↔ HasLongName c
long_name_is c =
    let names = c.group ∷ c.user ∷ c.host ∷ [] in
    let p : List ℕ → Bool = λ n. not (leb (length n) longest_name) in
    let decides : (n : List ℕ) → (p n ≡ true) ↔ (longest_name < length n) = λ n. over longest_name (length n) in
    (any_some p decides names, some_any p decides)

bad_level_is : (c : Client) → (bad_level c ≡ true) ↔ HasBadLevel c
bad_level_is c = over greatest_level c.level

all_taken_is : (r : Register) → Sized r → (all_taken r ≡ true) ↔ AllTaken r
all_taken_is r s =
    let l = r.clients in (
      λ e p h. lower_is_taken l p (omega (arith, eqb-true (lowest_free l) (length l) e, s.places)),
      λ t. eq-eqb (lowest_free l) (length l) (full t),
    )
  where
    full : AllTaken r → lowest_free r.clients ≡ length r.clients
    full t = by (leb (length r.clients) (lowest_free r.clients)) refl
      where
        by : (b : Bool) → leb (length r.clients) (lowest_free r.clients) ≡ b → lowest_free r.clients ≡ length r.clients
        by true e = omega (arith, leb-true (length r.clients) (lowest_free r.clients) e, lowest_within r.clients)
        by false e =
            let h = t (lowest_free r.clients) (omega (arith, leb-false (length r.clients) (lowest_free r.clients) e, s.places)) in
            none_some (lowest_is_free r.clients) h.1

missing_is : {A : Type 0} (o : Option A) → (missing o ≡ true) ↔ (o ≡ none)
missing_is none = (λ e. refl, λ e. refl)
missing_is (some a) = (λ e. absurd (false≢true e), λ e. none_some e refl)

not_is : {A : Type 0} (b : Bool) → (b ≡ true) ↔ A → (not b ≡ true) ↔ (A → ⊥)
not_is true d = (λ e a. false≢true e, λ n. absurd (n (d.0 refl)))
not_is false d = (λ e a. false≢true (d.1 a), λ n. refl)

pub named_group_is : (b n : List ℕ) (g : Numbered) → (group_named b n ≡ some g) ↔ Named b n g
named_group_is b n g =
    let p : Numbered → Bool = λ h. same (group_name b h) (full_name n) in
    let decides = named_is (group_name b) (full_name n) in
    (first_such p decides (groups_of b) g, such_first p decides)

no_input_is : (b n : List ℕ) (letter : ℕ) → (no_input b letter (group_named b n) ≡ true) ↔ (HasInput b n letter → ⊥)
no_input_is b n letter = by (group_named b n) refl
  where
    lettered : List ℕ → Bool
    lettered i = eqb (letter_field i) letter

    decides : (i : List ℕ) → (lettered i ≡ true) ↔ (letter_field i ≡ letter)
    decides i = (eqb-true (letter_field i) letter, eq-eqb (letter_field i) letter)

    linked : (h : Numbered) → group_named b n ≡ some h → (any lettered (links_in (view b) h.row) ≡ true) ↔ HasInput b n letter
    linked h e =
        let links = links_in (view b) h.row in (
          λ t. record { group = h; named = (named_group_is b n h).0 e; input = any_some lettered decides links t },
          λ i.
              let one : i.group ≡ h = cc ((named_group_is b n i.group).1 i.named) in
              some_any lettered decides (subst (λ (k : Numbered). Some (λ j. letter_field j ≡ letter) (links_in (view b) k.row)) one i.input),
        )

    by : (o : Option Numbered) → group_named b n ≡ o → (no_input b letter o ≡ true) ↔ (HasInput b n letter → ⊥)
    by none e = (λ t i. none_some e ((named_group_is b n i.group).1 i.named), λ t. refl)
    by (some h) e = not_is (any lettered (links_in (view b) h.row)) (linked h e)

-- ---- "Refusals"

module _ (g : Gateway) (o : Option ℕ) where
  pub add_refused : Sized g.register → (c : Client) → (refusal_of (answer g (add c)) ≡ o) ↔ FirstApplies (add_causes g.register c) o
  add_refused s c = rw (add_told g c) (first_is (cons (long_name_is c) (cons (bad_level_is c) (cons (all_taken_is g.register s) nil))) o)

  pub change_refused : (p : ℕ) (c : Client) → (refusal_of (answer g (change p c)) ≡ o) ↔ FirstApplies (change_causes g.register p c) o
  change_refused p c =
      rw (change_told g p c) (first_is (cons (missing_is (client_at g.register p)) (cons (long_name_is c) (cons (bad_level_is c) nil))) o)

  pub remove_refused : (p : ℕ) → (refusal_of (answer g (remove p)) ≡ o) ↔ FirstApplies (remove_causes g.register p) o
  remove_refused p = rw (remove_told g p) (first_is (cons (missing_is (client_at g.register p)) nil) o)

  pub set_refused :
      (n : List ℕ) (letter : ℕ) (x : Reading)
      → (refusal_of (answer g (set_reading n letter x)) ≡ o) ↔ FirstApplies (set_causes g.table n letter) o
  set_refused n letter x =
      rw (set_told g n letter x) (first_is (cons (not_is (is_table g.table) (table_is g.table)) (cons (no_input_is g.table n letter) nil)) o)
