-- What a register's calls leave of the table, in which room it is loaded again, and demand 3 for each of its standing clients.
use Rattle.std.specs.Prelude.{◌≡◌, refl, Bool, true, false, cond, List, [], ◌∷◌, ◌++◌, ℕ, ◌≤◌, Float, length, drop}
use Rattle.std.proofs.Common.{sym, ap, subst, ◌∙◌}
use Rattle.std.proofs.Math.Path.{fun_ext}
use Rattle.std.proofs.Math.Option.{Option, none, some}
use Rattle.spec_grammar.specs.Sentence.{Tagged}
use Rattle.spec_calc.specs.declared.Reading.{Reading}
use Rattle.spec_calc.specs.Readings.{GoneBad}
use Rattle.spec_rule.specs.declared.Access.{Access}
use Rattle.spec_rule.specs.declared.Decision.{Decision}
use Rattle.spec_rule.specs.Question.{Question, reading_instead}
use Rattle.spec_rule.specs.Rule.{rank}
use Rattle.spec_file.specs.Contents.{file_of}
use Rattle.spec_file.specs.Acceptance.{TextReads, Acceptable}
use Rattle.spec_file.proofs.laws.Theorem.{acceptable_is}
use Rattle.spec_table.specs.View.{view}
use Rattle.spec_table.specs.Check.{is_table}
use Rattle.spec_table.specs.Written.{table_of}
use Rattle.spec_table.proofs.laws.Accepted.{fits}
use Rattle.spec_table.proofs.laws.Theorem.{viewed, is_a_table}
use Rattle.spec_edition.specs.Edition.{Edition, Later, SaysNo}
use Rattle.spec_load.specs.declared.Loaded.{Loaded}
use Rattle.spec_load.specs.declared.Loaded.TheVariants as loaded
use Rattle.spec_load.specs.Load.{Result, is_accepted, load}
use Rattle.spec_load.proofs.laws.Load.{refused_leaves}
use Rattle.spec_decision.specs.Groups.{Numbered, group_named}
use Rattle.spec_decision.specs.Decision.{access_in, decide}
use Rattle.spec_register.specs.Register.{Client, Register, most_clients, client_at}
use Rattle.spec_register.specs.Right.{question_now, right_of}
use Rattle.spec_register.specs.declared.Refused.{Refused}
use Rattle.spec_register.specs.declared.Reloaded.TheVariants as reloaded
use Rattle.spec_register.specs.Refusal.{set_refusal}
use Rattle.spec_register.specs.Calls.{Gateway, Call, add, change, remove, set_reading, load_again, after, after_calls, right_at, unless, table_loaded, reloaded_as}
use Rattle.spec_register.specs.Sentences.{begun, NotRefused, EachDone, NoLoad}
use Rattle.spec_register.proofs.laws.Refused.{load_done}
use Rattle.spec_register.proofs.laws.Readings.{table_stays}
use Rattle.spec_places.specs.Storage.{Lent, lent, zeroed, register_in, right_in}
use Rattle.spec_places.specs.Writing.{each, settled}
use Rattle.spec_places.specs.Calls.{is_register, differing_in, has_room, with_reading_in, reloaded_by, left, left_by_calls, told, Agrees}
use Rattle.spec_places.proofs.laws.Behind.{settled_same, same_left, same_told}
use Rattle.spec_places.proofs.laws.Follows.{follows}
use Rattle.spec_demand.specs.Calls.{load_text, check_table, after_call}
use Rattle.spec_demand.specs.Register.{on_table, NeverMoreToClients}
use Rattle.spec_demand.proofs.laws.Exact.{laid_down}
use Rattle.spec_demand.proofs.laws.Later.{asked_never_more}

-- ---- the table

set_keeps : (s : Lent) (x : Bool) (o : Option Refused) (g : Option Numbered) (letter : ℕ) (r : Reading)
    → (cond x (unless o (with_reading_in s g letter r) s) s).table ≡ s.table
set_keeps s true none none letter r = refl
set_keeps s true none (some g) letter r = refl
set_keeps s true (some y) g letter r = refl
set_keeps s false o g letter r = refl

reload_loads : (s : Lent) (text : List ℕ) (x : Bool) (a : Loaded) → (load s.table text).answer ≡ a
    → (cond x (reloaded_by s (load s.table text).bytes a) s).table ≡ after_call s.table (cond x (load_text text) check_table)
reload_loads s text true (loaded.Accepted n w) e = refl
reload_loads s text true (loaded.Refused r p) e = sym (refused_leaves s.table text (ap is_accepted e))
reload_loads s text false a e = refl

pub register_on_table : (s : Lent) (c : Call) → (left s c).table ≡ after_call s.table (on_table s c)
register_on_table s (add c) = refl
register_on_table s (change p c) = refl
register_on_table s (remove p) = refl
register_on_table s (set_reading n letter r) = set_keeps s (is_register s) (set_refusal s.table n letter) (group_named s.table n) letter r
register_on_table s (load_again text) = reload_loads s text (has_room s) (load s.table text).answer refl

-- ---- what stands behind the table

-- bytes that begin with one file's table are alike to a call that is no load
pub same_file :
    (s : List ℕ) (xs : List Tagged) → Acceptable s xs → {t u : List ℕ} (rest rest' : List ℕ) → t ≡ table_of (file_of xs) ++ rest → u ≡ table_of (file_of xs) ++ rest'
    → (is_table t ≡ is_table u) × (view t ≡ view u)
same_file s xs a rest rest' e e' =
    let f = file_of xs in
    let ok = fits s xs (acceptable_is s xs a) in (
      ap is_table e ∙ is_a_table f ok rest ∙ sym (ap is_table e' ∙ is_a_table f ok rest'),
      ap view e ∙ viewed f ok rest ∙ sym (ap view e' ∙ viewed f ok rest'),
    )

pub register_behind :
    (s : List ℕ) (xs : List Tagged) → Acceptable s xs → (rest rest' places states : List ℕ) (values : List Float)
    → let one = lent (table_of (file_of xs) ++ rest) places states values in
    let other = lent (table_of (file_of xs) ++ rest') places states values in
    (c : Call) → ((text : List ℕ) → c ≡ load_again text → ⊥)
    → (told one c ≡ told other c) × ((left one c).places ≡ (left other c).places) × ((left one c).states ≡ (left other c).states)
    × ((left one c).values ≡ (left other c).values)
register_behind s xs a rest rest' places states values c n =
    let t = table_of (file_of xs) ++ rest in
    let u = table_of (file_of xs) ++ rest' in
    let k : (is_table t ≡ is_table u) × (view t ≡ view u) = same_file s xs a rest rest' refl refl in
    let same = same_left t u k.0 k.1 places states values c n in (
      same_told t u k.0 k.1 places states values c n,
      ap (λ (l : Lent). l.places) same,
      ap (λ (l : Lent). l.states) same,
      ap (λ (l : Lent). l.values) same,
    )

-- ---- a load again in another room

module _ (places states : List ℕ) (values : List Float) (x : Bool) (room room' t u : List ℕ) where
  -- what two loads tell and leave of a register that is long enough, or not: their answers, and the tables that they leave
  abbrev Same : Loaded → Loaded → Type 0
  Same a a' =
      let one = cond x (reloaded_by (lent room places states values) t a) (lent room places states values) in
      let other = cond x (reloaded_by (lent room' places states values) u a') (lent room' places states values) in
      (table_loaded (cond x (reloaded_as a (differing_in places one.places)) reloaded.NotRegister)
      ≡ table_loaded (cond x (reloaded_as a' (differing_in places other.places)) reloaded.NotRegister))
      × (one.places ≡ other.places)
      × (one.states ≡ other.states)
      × (one.values ≡ other.values)

alike :
    (places states : List ℕ) (values : List Float) (x : Bool) (room room' t u : List ℕ) (a : Loaded)
    → each (settled t) most_clients places ≡ each (settled u) most_clients places → Same places states values x room room' t u a a
alike places states values true room room' t u (loaded.Accepted n w) e =
    (ap (λ (b : List ℕ). table_loaded (reloaded_as (loaded.Accepted n w) (differing_in places b))) e, e, refl, refl)
alike places states values true room room' t u (loaded.Refused y p) e = (refl, refl, refl, refl)
alike places states values false room room' t u a e = (refl, refl, refl, refl)

pub reload_elsewhere :
    (s : List ℕ) (xs : List Tagged) → Acceptable s xs → (room room' places states : List ℕ) (values : List Float)
    → length (table_of (file_of xs)) ≤ length room → length (table_of (file_of xs)) ≤ length room'
    → let one = lent room places states values in
    let other = lent room' places states values in
    (told one (load_again s) ≡ told other (load_again s))
    × ((left one (load_again s)).places ≡ (left other (load_again s)).places)
    × ((left one (load_again s)).states ≡ (left other (load_again s)).states)
    × ((left one (load_again s)).values ≡ (left other (load_again s)).values)
reload_elsewhere s xs a room room' places states values l l' =
    let n = length (table_of (file_of xs)) in
    let laid = laid_down room s xs a l in
    let laid' = laid_down room' s xs a l' in
    let t = (load room s).bytes in
    let u = (load room' s).bytes in
    let answers : (load room s).answer ≡ (load room' s).answer = ap (λ (r : Result). r.answer) laid ∙ sym (ap (λ (r : Result). r.answer) laid') in
    let k : (is_table t ≡ is_table u) × (view t ≡ view u) = same_file s xs a (drop n room) (drop n room') (ap (λ (r : Result). r.bytes) laid) (ap (λ (r : Result). r.bytes) laid') in
    let x = has_room (lent room places states values) in
    subst
    (Same places states values x room room' t u (load room s).answer)
    answers
    (alike places states values x room room' t u (load room s).answer (settled_same t u k.0 k.1 places))

-- ---- demand 3

-- of bytes that are still those that the load left
asked_still :
    (lent s : List ℕ) → is_accepted (load lent s).answer ≡ true → (xs : List Tagged) → TextReads s xs
    → (b : List ℕ) → b ≡ (load lent s).bytes
    → (e : Edition) (q : Question) (later : Access) → Later e xs q later
    → ((worse : List Reading) → GoneBad q.readings worse → rank (access_in (decide b (reading_instead q worse))) ≤ rank later)
    × (SaysNo e q xs → access_in (decide b q) ≡ later)
asked_still lent s h xs t b same e q later given = rw same (asked_never_more lent s h xs t e q later given)

-- what is claimed of a table, a register and the right of each place, after a load of a text that says xs
abbrev pub Claim : List Tagged → List ℕ → Register → (ℕ → Decision) → Type 0
Claim xs table r right =
    (p : ℕ) (c : Client) → client_at r p ≡ some c
    → let q = question_now table r c in
    (e : Edition) (actual : List Reading) (later : Access) → Later e xs (reading_instead q actual) later
    → (GoneBad actual q.readings → rank (right p).access ≤ rank later) × (actual ≡ q.readings → SaysNo e q xs → (right p).access ≡ later)

-- of a gateway over what a load left
pub claims :
    (lent s : List ℕ) → is_accepted (load lent s).answer ≡ true → (xs : List Tagged) → TextReads s xs
    → (now : Gateway) → now.table ≡ (load lent s).bytes → Claim xs now.table now.register (right_at now)
claims lent s accepted xs t now same p c stands e actual later given =
    let q = question_now now.table now.register c in
    let asked = asked_still lent s accepted xs t now.table same e in
    let right : (right_at now p).access ≡ access_in (decide now.table q) = ap (λ o. (right_of now.table now.register o).access) stands in (
      λ bad. rw right ((asked (reading_instead q actual) later given).0 q.readings bad),
      λ same no. right ∙ (asked q later (rw same at given)).1 no,
    )

-- after any calls but an accepted load
claimed :
    (before : Gateway) (s : List ℕ) → NotRefused before (load_again s)
    → (xs : List Tagged) → TextReads s xs
    → (between : List Call) → EachDone NoLoad (after before (load_again s)) between
    → let now = after_calls (after before (load_again s)) between in
    Claim xs now.table now.register (right_at now)
claimed before s accepted xs t between n =
    claims before.table s ((load_done before s).0 accepted) xs t (after_calls (after before (load_again s)) between)
    (table_stays (after before (load_again s)) between n)

-- so of storage that is that gateway
pub of_storage : (xs : List Tagged) (l : Lent) (g : Gateway) → Agrees l g → Claim xs g.table g.register (right_at g)
    → Claim xs l.table (register_in l) (right_in l.places)
of_storage xs l g a h =
    subst (λ (t : List ℕ). Claim xs t (register_in l) (right_in l.places)) (sym a.table)
    (subst (λ (r : Register). Claim xs g.table r (right_in l.places)) (sym a.register)
    (subst (λ (right : ℕ → Decision). Claim xs g.table g.register right) (sym (fun_ext a.rights)) h))

calls_behind : (g : Gateway) (cs ds : List Call) → after_calls g (cs ++ ds) ≡ after_calls (after_calls g cs) ds
calls_behind g [] ds = refl
calls_behind g (c ∷ cs) ds = calls_behind (after g c) cs ds

pub never_more_to_clients : NeverMoreToClients
never_more_to_clients t n m v hn hm hv earlier s accepted xs reads between spared =
    let calls = earlier ++ (load_again s ∷ between) in
    let same = calls_behind (begun t) earlier (load_again s ∷ between) in
    of_storage xs (left_by_calls (zeroed t n m v) calls) (after_calls (begun t) calls) (follows t n m v hn hm hv calls)
    (subst (λ (g : Gateway). Claim xs g.table g.register (right_at g)) (sym same)
    (claimed (after_calls (begun t) earlier) s accepted xs reads between spared))
