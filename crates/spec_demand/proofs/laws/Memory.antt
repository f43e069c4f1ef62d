-- If nobody else writes the table, its bytes are what the calls leave.
use Rattle.std.specs.Prelude.{◌≡◌, refl, Bool, true, false, cond, List, [], ◌∷◌, map, ℕ, zero, suc, ◌+◌, ◌≤◌, ◌<◌}
use Rattle.std.proofs.Common.{ap, ap₂, ◌∙◌, arith}
use Rattle.std.proofs.Math.Option.{Option, none, some}
use Rattle.spec_lists.specs.Select.{select, prepend_if}
use Rattle.spec_lists.specs.Every.{Every, cons}
use Rattle.spec_lists.proofs.laws.Every.{every_implies}
use Rattle.spec_grammar.specs.Sentence.{Tagged}
use Rattle.spec_calc.specs.declared.Reading.{Reading}
use Rattle.spec_calc.specs.Readings.{GoneBad}
use Rattle.spec_rule.specs.declared.Access.{Access}
use Rattle.spec_rule.specs.Question.{Question, reading_instead}
use Rattle.spec_rule.specs.Rule.{rank}
use Rattle.spec_file.specs.Acceptance.{TextReads}
use Rattle.spec_load.specs.Load.{load}
use Rattle.spec_decision.specs.Decision.{access_in, decide}
use Rattle.spec_edition.specs.Edition.{Edition, Later, SaysNo}
use Rattle.spec_demand.specs.Calls.{text_loaded, after_load, after_calls, is_accepted, NoAcceptedLoad}
use Rattle.spec_demand.specs.Memory.{Memory, Storage, Apart, bytes_from, bytes_in, Step, calls_of, WritesOnly, Leaves, Made, NobodyElseWrites}
use Rattle.spec_demand.proofs.laws.Later.{never_above, exactly_equal}

same_bytes : (m m' : Memory) (a n : ℕ) → ((i : ℕ) → a ≤ i → i < a + n → m' i ≡ m i) → bytes_from m' a n ≡ bytes_from m a n
same_bytes m m' a zero h = refl
same_bytes m m' a (suc n) h =
    ap₂ (λ (x : ℕ) (xs : List ℕ). x ∷ xs) (h a (omega arith) (omega arith)) (same_bytes m m' (suc a) n (λ i l u. h i (omega arith) (omega arith)))

-- a storage that is apart from all that is lent for writing keeps its bytes
apart_stays :
    (table : Storage) (lent : List Storage) (before after : Memory) → Every (Apart table) lent → WritesOnly lent before after
    → bytes_in after table ≡ bytes_in before table
apart_stays table lent before after h w =
    same_bytes before after table.from table.size
    (λ i l u. w i (every_implies (λ s apart. λ within. apart i (record { from = l; before = u }) within) h))

-- what a call leaves in the table: a load into it what it loads, any other what stood there
step_leaves :
    (table : Storage) (x : Step) → Every (Apart table) x.lent → (o : Option (List ℕ)) → Leaves table x o
    → bytes_in x.after table ≡ after_load (bytes_in x.before table) o
step_leaves table x h none w = apart_stays table x.lent x.before x.after h w
step_leaves table x h (some s) e = e

-- a call elsewhere is left out of the calls on the table
counted :
    (b b' : List ℕ) (x : Step) (xs : List Step) (t : Bool) → b' ≡ after_load b (cond t (text_loaded x.call) none)
    → after_calls b' (calls_of xs) ≡ after_calls b (map (λ y. y.call) (prepend_if t x (select (λ y. y.on_table) xs)))
counted b b' x xs true e = ap (λ (c : List ℕ). after_calls c (calls_of xs)) e
counted b b' x xs false e = ap (λ (c : List ℕ). after_calls c (calls_of xs)) e

pub table_after :
    (table : Storage) (first : Memory) (xs : List Step) (last : Memory) → Every (Made table) xs → NobodyElseWrites table first xs last
    → bytes_in last table ≡ after_calls (bytes_in first table) (calls_of xs)
table_after table first [] last ms h = h
table_after table first (x ∷ xs) last (cons m ms) h =
    let o = cond x.on_table (text_loaded x.call) none in
    let here = step_leaves table x h.1.0 o m ∙ ap (λ (b : List ℕ). after_load b o) h.0 in
    table_after table x.after xs last ms h.1.1 ∙ counted (bytes_in first table) (bytes_in x.after table) x xs x.on_table here

-- ---- demand 3: the calls that come between in a program's memory

module _
    (lent s : List ℕ) (h : is_accepted (load lent s).answer ≡ true) (xs : List Tagged) (t : TextReads s xs)
    (table : Storage) (loaded : Memory) (left : bytes_in loaded table ≡ (load lent s).bytes)
    (between : List Step) (made : Every (Made table) between) (n : NoAcceptedLoad (load lent s).bytes (calls_of between))
    (now : Memory) (alone : NobodyElseWrites table loaded between now)
    (e : Edition) (q : Question) (later : Access) (given : Later e xs q later) where
  stands : bytes_in now table ≡ after_calls (load lent s).bytes (calls_of between)
  stands = table_after table loaded between now made alone ∙ ap (λ (b : List ℕ). after_calls b (calls_of between)) left

  pub never_more :
      ((worse : List Reading) → GoneBad q.readings worse
      → rank (access_in (decide (bytes_in now table) (reading_instead q worse))) ≤ rank later)
      × (SaysNo e q xs → access_in (decide (bytes_in now table) q) ≡ later)
  never_more =
      rw stands (never_above lent s h xs t (calls_of between) n e q later given, exactly_equal lent s h xs t (calls_of between) n e q later given)
