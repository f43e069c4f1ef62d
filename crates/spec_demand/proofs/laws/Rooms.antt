-- A register whose calls are lent the table in force, in whichever room it stands, is after each of them what spec_register says.
use Rattle.std.specs.Prelude.{◌≡◌, refl, Bool, true, false, cond, List, [], ◌∷◌, ◌++◌, ℕ, ◌≤◌, Float, length, drop, replicate}
use Rattle.std.proofs.Common.{sym, ap, subst, ◌∙◌, arith, length-append}
use Rattle.std.proofs.lemmas.Bool.{false≢true}
use Rattle.std.proofs.Math.Option.{Option, none, some}
use Rattle.std.proofs.lemmas.List.{length-replicate}
use Rattle.std.proofs.Math.Seq.{drop-append_seam}
use Rattle.spec_calc.specs.declared.Reading.{Reading}
use Rattle.spec_file.specs.Contents.{file_of}
use Rattle.spec_file.proofs.laws.Theorem.{acceptable_is}
use Rattle.spec_table.specs.Layout.{greatest_table}
use Rattle.spec_table.specs.Table.{Table}
use Rattle.spec_table.specs.Check.{is_table}
use Rattle.spec_table.proofs.laws.Table.{table_is}
use Rattle.spec_table.proofs.laws.Accepted.{fits}
use Rattle.spec_table.proofs.laws.Theorem.{table_length, zeros_no_table}
use Rattle.spec_load.specs.declared.Loaded.{Loaded}
use Rattle.spec_load.specs.declared.Loaded.TheVariants as loaded
use Rattle.spec_load.specs.Load.{Result, is_accepted, load}
use Rattle.spec_register.specs.Register.{Client, Register, empty}
use Rattle.spec_register.specs.Calls.{Gateway, Call, add, change, remove, set_reading, load_again, after, after_load}
use Rattle.spec_register.specs.Sentences.{Sized}
use Rattle.spec_register.proofs.laws.Sized.{empty_sized, call_sized}
use Rattle.spec_register.proofs.laws.Rights.{AllFit, none_fits, call_fits}
use Rattle.spec_places.specs.Storage.{Lent, lent, places_bytes, all_readings, zeroed, register_in}
use Rattle.spec_places.specs.Writing.{kept}
use Rattle.spec_places.specs.Calls.{has_room, reloaded_by, left, Agrees}
use Rattle.spec_places.proofs.laws.Behind.{kept_same}
use Rattle.spec_places.proofs.laws.Moved.{kept_of_none, moved}
use Rattle.spec_places.proofs.laws.Settled.{Settled, has_places, has_states, zeros_settled, zeros_empty}
use Rattle.spec_places.proofs.laws.Steps.{call_holds}
use Rattle.spec_places.proofs.laws.Follows.{agrees}
use Rattle.spec_demand.specs.Calls.{load_text, check_table, after_call}
use Rattle.spec_demand.specs.Rooms.{GoodFile, its_table, InForce, Turn, LentInForce, no_more, other, accepted, refused, register_after, over, left_by_turns, NeverMoreInRooms}
use Rattle.spec_demand.proofs.laws.Exact.{laid_down}
use Rattle.spec_demand.proofs.laws.Register.{register_on_table, same_file, reload_elsewhere, claims, of_storage}

-- ---- bytes that stand for the table in force

not_table : (b : List ℕ) → (Table b → ⊥) → is_table b ≡ false
not_table b n = by (is_table b) refl
  where
    by : (x : Bool) → is_table b ≡ x → x ≡ false
    by true e = absurd (n ((table_is b).0 e))
    by false e = refl

kept_in_force :
    (o : Option GoodFile) (t u : List ℕ) → InForce o t → InForce o u → (rs : ℕ → List Reading) (c : Client) → kept t rs c ≡ kept u rs c
kept_in_force none t u no-t no-u rs c = kept_of_none t u (not_table t no-t) (not_table u no-u) rs c
kept_in_force (some f) t u i j rs c =
    let k = same_file f.text f.says f.acceptable i.0 j.0 i.1 j.1 in kept_same t u k.0 k.1 rs c

-- some have room for every table
record Roomy (most : ℕ) (o : Option GoodFile) : Type 0 where
  pub bytes : List ℕ
  pub stands : InForce o bytes
  pub long : most ≤ length bytes

roomy : (most : ℕ) (o : Option GoodFile) → Roomy most o
roomy most none =
    let zeros : List ℕ = replicate most 0 in
    record {
      bytes = zeros;
      stands = λ t. false≢true (sym (zeros_no_table most) ∙ (table_is zeros).1 t);
      long = omega (arith, length-replicate {A = ℕ} most 0);
    }
roomy most (some f) =
    let zeros : List ℕ = replicate most 0 in
    record {
      bytes = its_table f ++ zeros;
      stands = (zeros, refl);
      long = omega (arith, length-append (its_table f) zeros, length-replicate {A = ℕ} most 0);
    }

-- ---- after each turn

-- the storage is settled over whatever bytes stand for the table in force, and holds the register r
record Stands (o : Option GoodFile) (s : Lent) (r : Register) : Type 0 where
  pub settled : (b : List ℕ) → InForce o b → Settled (over b s)
  pub holds : register_in s ≡ r

settled_over :
    (o : Option GoodFile) (s : Lent) (t : List ℕ) → InForce o t → Settled (over t s) → (b : List ℕ) → InForce o b → Settled (over b s)
settled_over o s t i h b j = moved t b (kept_in_force o t b i j) s.places s.states s.values h

table_kept : (s : Lent) (c : Call) → ((text : List ℕ) → c ≡ load_again text → ⊥) → (left s c).table ≡ s.table
table_kept s (add c) n = refl
table_kept s (change p c) n = refl
table_kept s (remove p) n = refl
table_kept s (set_reading g letter x) n = register_on_table s (set_reading g letter x)
table_kept s (load_again text) n = absurd (n text refl)

module _ {o : Option GoodFile} {s : Lent} {r : Register} (st : Stands o s r) where
  after_other :
      (b : List ℕ) (c : Call) → ((text : List ℕ) → c ≡ load_again text → ⊥) → InForce o b
      → Stands o (left (over b s) c) (after (record { table = b; register = r }) c).register
  after_other b c n i =
      let k = call_holds (over b s) (st.settled b i) c in
      let l = left (over b s) c in
      record {
        settled = settled_over o l b i (subst (λ (t : List ℕ). Settled (over t l)) (table_kept (over b s) c n) k.settled);
        holds = ap (λ (g : Gateway). g.register) k.same ∙ ap (λ (q : Register). (after (record { table = b; register = q }) c).register) st.holds;
      }

  after_refused :
      (room text : List ℕ) → is_accepted (load room text).answer ≡ false
      → Stands o (left (over room s) (load_again text)) (after (record { table = room; register = r }) (load_again text)).register
  after_refused room text e = by (has_room (over room s)) (load room text).answer e
    where
      by :
          (x : Bool) (a : Loaded) → is_accepted a ≡ false
          → Stands o (cond x (reloaded_by (over room s) (load room text).bytes a) (over room s)) (after_load a r)
      by x (loaded.Accepted n w) h = absurd (false≢true (sym h))
      by true (loaded.Refused y p) h = record { settled = st.settled; holds = st.holds }
      by false (loaded.Refused y p) h = record { settled = st.settled; holds = st.holds }

  module _ (f : GoodFile) (room : List ℕ) (enough : length (its_table f) ≤ length room) where
    -- the same load, in a room of bytes that stand for the table before it
    abbrev before : Roomy greatest_table o
    before = roomy greatest_table o

    abbrev elsewhere : Lent
    elsewhere = left (over before.bytes s) (load_again f.text)

    long_enough : length (its_table f) ≤ length before.bytes
    long_enough =
        let ok = fits f.text f.says (acceptable_is f.text f.says f.acceptable) in
        omega (arith, table_length (file_of f.says) ok, before.long)

    roomy_register : has_room (over before.bytes s) ≡ true
    roomy_register =
        let h = (st.settled before.bytes before.stands).room in
        rw (has_places (over before.bytes s) h, has_states (over before.bytes s) h) refl

    elsewhere_table : InForce (some f) elsewhere.table
    elsewhere_table = (
      drop (length (its_table f)) before.bytes,
      register_on_table (over before.bytes s) (load_again f.text)
          ∙ ap (λ (x : Bool). after_call before.bytes (cond x (load_text f.text) check_table)) roomy_register
          ∙ ap (λ (x : Result). x.bytes) (laid_down before.bytes f.text f.says f.acceptable long_enough),
    )

    after_accepted : Stands (some f) (left (over room s) (load_again f.text)) (after (record { table = room; register = r }) (load_again f.text)).register
    after_accepted =
        let b = before.bytes in
        let k = call_holds (over b s) (st.settled b before.stands) (load_again f.text) in
        let same = reload_elsewhere f.text f.says f.acceptable room b s.places s.states s.values enough long_enough in
        let l = left (over room s) (load_again f.text) in
        let alike : (t : List ℕ) → over t elsewhere ≡ over t l =
        λ t.
        ap (λ (x : List ℕ). lent t x elsewhere.states elsewhere.values) (sym same.1)
        ∙ ap (λ (x : List ℕ). lent t l.places x elsewhere.values) (sym same.2)
        ∙ ap (λ (x : List Float). lent t l.places l.states x) (sym same.3) in
        let cleared : after_load (load b f.text).answer r ≡ after_load (load room f.text).answer r =
        rw (laid_down b f.text f.says f.acceptable long_enough, laid_down room f.text f.says f.acceptable enough) refl in
        record {
          settled = λ t i. subst Settled (alike t) (settled_over (some f) elsewhere elsewhere.table elsewhere_table k.settled t i);
          holds =
              ap register_in (sym (alike []))
              ∙ ap (λ (g : Gateway). g.register) k.same
              ∙ ap (λ (q : Register). after_load (load b f.text).answer q) st.holds
              ∙ cleared;
        }

-- ---- after all of them

turns_stand :
    {o now : Option GoodFile} {ts : List Turn} → LentInForce o ts now → {s : Lent} {r : Register} → Stands o s r
    → Stands now (left_by_turns s ts) (register_after r ts)
turns_stand no_more st = st
turns_stand (other {b = b} {c = c} n i l) st = turns_stand l (after_other st b c n i)
turns_stand (accepted {room = room} f enough l) st = turns_stand l (after_accepted st f room enough)
turns_stand (refused {room = room} {text = text} e l) st = turns_stand l (after_refused st room text e)

module _ (n m : ℕ) (v : List Float) (hn : places_bytes ≤ n) (hm : all_readings ≤ m) (hv : all_readings ≤ length v) where
  begins : Stands none (zeroed [] n m v) empty
  begins = record { settled = λ b i. zeros_settled b n m v hn hm hv; holds = zeros_empty [] n m v hn hm hv }

  module _ {ts : List Turn} {now : Option GoodFile} (l : LentInForce none ts now) (b : List ℕ) (i : InForce now b) where
    pub in_rooms : Agrees (over b (left_by_turns (zeroed [] n m v) ts)) (record { table = b; register = register_after empty ts })
    in_rooms =
        let st = turns_stand l begins in
        agrees
        (over b (left_by_turns (zeroed [] n m v) ts))
        (record { table = b; register = register_after empty ts })
        (record { settled = st.settled b i; same = ap (λ (r : Register). record { table = b; register = r }) st.holds })

-- ---- what the sentences and demand 3 ask for

turns_hold :
    {r : Register} → Sized r → AllFit r → (ts : List Turn) → Sized (register_after r ts) × AllFit (register_after r ts)
turns_hold s f [] = (s, f)
turns_hold {r = r} s f (t ∷ ts) =
    let g : Gateway = record { table = t.bytes; register = r } in turns_hold {r = (after g t.call).register} (call_sized g t.call s) (call_fits g t.call s f) ts

pub turns_sized : (ts : List Turn) → Sized (register_after empty ts)
turns_sized ts = (turns_hold empty_sized none_fits ts).0

pub turns_fit : (ts : List Turn) → AllFit (register_after empty ts)
turns_fit ts = (turns_hold empty_sized none_fits ts).1

pub never_more_in_rooms : NeverMoreInRooms
never_more_in_rooms n m v hn hm hv ts f l b i =
    let g : Gateway = record { table = b; register = register_after empty ts } in
    let same : b ≡ its_table f ++ drop (length (its_table f)) b =
    i.1 ∙ ap (λ (rest : List ℕ). its_table f ++ rest) (sym (ap (drop (length (its_table f))) i.1 ∙ drop-append_seam (its_table f) i.0)) in
    let enough : length (its_table f) ≤ length b = omega (arith, ap length i.1, length-append (its_table f) i.0) in
    let laid = laid_down b f.text f.says f.acceptable enough in
    of_storage
    f.says
    (over b (left_by_turns (zeroed [] n m v) ts))
    g
    (in_rooms n m v hn hm hv l b i)
    (claims b f.text (ap (λ (x : Result). is_accepted x.answer) laid) f.says f.acceptable.as_read g (same ∙ sym (ap (λ (x : Result). x.bytes) laid)))
