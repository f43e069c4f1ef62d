-- The machine on lent storage is spec_register's, from zeros on, over any calls. And whatever bytes are lent, a refused call changes none.
use Rattle.std.specs.Prelude.{◌≡◌, refl, Bool, false, cond, List, [], ◌∷◌, ℕ, ◌≤◌, Float, length}
use Rattle.std.proofs.Math.Path.{ap, fun_ext}
use Rattle.std.proofs.Common.{ap₂, ◌∙◌, arith}
use Rattle.std.proofs.Math.Bool.{true}
use Rattle.std.proofs.Math.Option.{Option, none, some}
use Rattle.spec_load.specs.declared.Loaded.{Loaded}
use Rattle.spec_load.specs.declared.Loaded.TheVariants as loaded
use Rattle.spec_load.specs.Load.{load}
use Rattle.spec_decision.specs.Groups.{group_named}
use Rattle.spec_register.specs.declared.Refused.{Refused}
use Rattle.spec_register.specs.declared.Refused.TheVariants.{NotRegister}
use Rattle.spec_register.specs.declared.Added.TheVariants as added
use Rattle.spec_register.specs.declared.Changed.TheVariants as changed
use Rattle.spec_register.specs.declared.Reloaded.TheVariants as reloaded
use Rattle.spec_register.specs.Register.{Register}
use Rattle.spec_register.specs.Right.{differing}
use Rattle.spec_register.specs.Refusal.{add_refusal, change_refusal, remove_refusal, set_refusal}
use Rattle.spec_register.specs.Calls.{Gateway, Call, add, change, remove, set_reading, load_again, unless, after_calls, right_at, changed_by}
use Rattle.spec_register.specs.Calls.{client_added, rights_changed, table_loaded, added_at, changed_or, reloaded_as, answer, refusal_of}
use Rattle.spec_register.specs.Sentences.{begun}
use Rattle.spec_places.specs.Storage.{Lent, zeroed, places_bytes, all_readings, are_places, standing_in, readings_in}
use Rattle.spec_places.specs.Writing.{entered, freed}
use Rattle.spec_places.specs.Calls.{is_register, has_room, free_in, differing_in, with_places, with_reading_in, reloaded_by}
use Rattle.spec_places.specs.Calls.{told_added, places_added, told_changed, places_changed, places_removed, left_set, left_reloaded, left, left_by_calls, told, Agrees}
use Rattle.spec_places.proofs.laws.Settled.{Settled, has_places, has_states, right_settled, zeros_settled, zeros_empty}
use Rattle.spec_places.proofs.laws.Steps.{gateway_in, Holds, call_holds}

-- ---- one call

-- what is told of enough storage
by_changes : {A : Type 0} (f : ℕ → A) (no_register : A) {x : Bool} {m n : ℕ} → x ≡ true → m ≡ n → cond x (f m) no_register ≡ f n
by_changes {A} f no_register e d = ap₂ (λ (y : Bool) (k : ℕ). cond y (f k) no_register) e d

module _ (s : Lent) (h : Settled s) where
  changes : (c : Call) → differing_in s.places (left s c).places ≡ changed_by (gateway_in s) c
  changes c =
      let k = call_holds s h c in
      ap₂
      differing
      (fun_ext (right_settled s h))
      (fun_ext (right_settled (left s c) k.settled) ∙ ap right_at k.same)

  -- a call tells what spec_register answers
  pub told_answers : (c : Call) → told s c ≡ answer (gateway_in s) c
  unfolding told_added told_changed
  told_answers (add c) =
      let o = add_refusal (standing_in s.places) c in
      ap client_added (by_changes (added_at o (free_in s.places)) (added.Refused NotRegister) h.room (changes (add c)))
  told_answers (change p c) =
      let o = change_refusal (standing_in s.places) p c in
      ap rights_changed (by_changes (changed_or o) (changed.Refused NotRegister) h.room (changes (change p c)))
  told_answers (remove p) =
      let o = remove_refusal (standing_in s.places) p in
      ap rights_changed (by_changes (changed_or o) (changed.Refused NotRegister) (has_places s h.room) (changes (remove p)))
  told_answers (set_reading n letter x) =
      let o = set_refusal s.table n letter in
      ap rights_changed (by_changes (changed_or o) (changed.Refused NotRegister) h.room (changes (set_reading n letter x)))
  told_answers (load_again text) =
      let roomy : has_room s ≡ true = rw (has_places s h.room, has_states s h.room) in
      ap table_loaded (by_changes (reloaded_as (load s.table text).answer) reloaded.NotRegister roomy (changes (load_again text)))

-- ---- any calls

calls_hold : (s : Lent) → Settled s → (cs : List Call) → Holds (left_by_calls s cs) (after_calls (gateway_in s) cs)
calls_hold s h [] = record { settled = h; same = refl }
calls_hold s h (c ∷ cs) =
    let k = call_holds s h c in
    let later = calls_hold (left s c) k.settled cs in
    record { settled = later.settled; same = later.same ∙ ap (λ (g : Gateway). after_calls g cs) k.same }

pub agrees : (s : Lent) (g : Gateway) → Holds s g → Agrees s g
agrees s g k =
    record {
      table = ap (λ (x : Gateway). x.table) k.same;
      register = ap (λ (x : Gateway). x.register) k.same;
      rights = λ p. right_settled s k.settled p ∙ ap (λ (x : Gateway). right_at x p) k.same;
      answers = λ c. told_answers s k.settled c ∙ ap (λ (x : Gateway). answer x c) k.same;
    }

-- from zeros on, whatever is called, lent storage is the register that spec_register says
pub follows :
    (t : List ℕ) (n m : ℕ) (v : List Float) → places_bytes ≤ n → all_readings ≤ m → all_readings ≤ length v
    → (cs : List Call) → Agrees (left_by_calls (zeroed t n m v) cs) (after_calls (begun t) cs)
follows t n m v hn hm hv cs =
    let k = calls_hold (zeroed t n m v) (zeros_settled t n m v hn hm hv) cs in
    let begins = ap (λ (r : Register). after_calls (record { table = t; register = r }) cs) (zeros_empty t n m v hn hm hv) in
    agrees (left_by_calls (zeroed t n m v) cs) (after_calls (begun t) cs) (record { settled = k.settled; same = k.same ∙ begins })

-- ---- refused calls

module _ (s : Lent) (n : ℕ) where
  never : {A : Type 0} → none ≡ some n → A
  never z = let w : ◌≡◌ {A = ℕ} 0 1 = cc in absurd (omega arith)

  add_leaves :
      (x : Bool) (o : Option Refused) (p m : ℕ) (b : List ℕ) → refusal_of (client_added (cond x (added_at o p m) (added.Refused NotRegister))) ≡ some n
      → with_places s (cond x (unless o b s.places) s.places) ≡ s
  add_leaves true none p m b e = never e
  add_leaves true (some r) p m b e = refl
  add_leaves false o p m b e = refl

  change_leaves :
      (x : Bool) (o : Option Refused) (m : ℕ) (b : List ℕ) → refusal_of (rights_changed (cond x (changed_or o m) (changed.Refused NotRegister))) ≡ some n
      → with_places s (cond x (unless o b s.places) s.places) ≡ s
  change_leaves true none m b e = never e
  change_leaves true (some r) m b e = refl
  change_leaves false o m b e = refl

  set_leaves :
      (x : Bool) (o : Option Refused) (m : ℕ) (l : Lent) → refusal_of (rights_changed (cond x (changed_or o m) (changed.Refused NotRegister))) ≡ some n
      → cond x (unless o l s) s ≡ s
  set_leaves true none m l e = never e
  set_leaves true (some r) m l e = refl
  set_leaves false o m l e = refl

  load_leaves :
      (x : Bool) (a : Loaded) (m : ℕ) (u : List ℕ) → refusal_of (table_loaded (cond x (reloaded_as a m) reloaded.NotRegister)) ≡ some n
      → cond x (reloaded_by s u a) s ≡ s
  load_leaves true (loaded.Accepted k w) m u e = never e
  load_leaves true (loaded.Refused r p) m u e = refl
  load_leaves false a m u e = refl

-- 01: "A refused call changes no lent byte and no state": of whatever is lent
pub refused_leaves : (s : Lent) (c : Call) (n : ℕ) → refusal_of (told s c) ≡ some n → left s c ≡ s
unfolding told_added places_added told_changed places_changed
refused_leaves s (add c) n e =
    let b = s.places in
    add_leaves s n
    (is_register s)
    (add_refusal (standing_in b) c)
    (free_in b)
    (differing_in b (places_added s c))
    (entered s.table (readings_in s.states s.values) b (free_in b) c) e
refused_leaves s (change p c) n e =
    let b = s.places in
    change_leaves s n
    (is_register s)
    (change_refusal (standing_in b) p c)
    (differing_in b (places_changed s p c))
    (entered s.table (readings_in s.states s.values) b p c) e
refused_leaves s (remove p) n e =
    let b = s.places in
    change_leaves s n (are_places b) (remove_refusal (standing_in b) p) (differing_in b (places_removed b p)) (freed b p) e
refused_leaves s (set_reading g letter x) n e =
    set_leaves s n
    (is_register s)
    (set_refusal s.table g letter)
    (differing_in s.places (left_set s g letter x).places)
    (with_reading_in s (group_named s.table g) letter x) e
refused_leaves s (load_again text) n e =
    let r = load s.table text in
    load_leaves s n (has_room s) r.answer (differing_in s.places (left_reloaded s text).places) r.bytes e
