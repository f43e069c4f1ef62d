-- Each call on settled storage leaves it settled, and leaves the register that spec_register says.
use Rattle.std.specs.Prelude.{◌≡◌, refl, Bool, true, false, cond, List, ◌≢◌, ℕ, ◌+◌, ◌*◌, ◌≤◌, ◌<◌, Float, length, get_or, set, replicate}
use Rattle.std.proofs.Common.{sym, ap, ap₂, ◌∙◌, zero-add, arith, length-set, leb-true, le-leb}
use Rattle.std.proofs.Math.Path.{subst}
use Rattle.std.proofs.lemmas.Bool.{false≢true, eqb-false}
use Rattle.std.proofs.Math.Option.{Option, none, some}
use Rattle.std.proofs.Math.Decide.{ℕ_discrete, dec_lt}
use Rattle.std.proofs.lemmas.List.{length-replicate, get_or-replicate}
use Rattle.std.proofs.lemmas.List.Edits.{sets}
use Rattle.std.proofs.Math.Seq.{length-sets}
use Rattle.spec_lists.specs.Select.{first_if, missing}
use Rattle.spec_lists.proofs.laws.Sets.{get_d_sets}
use Rattle.spec_calc.specs.declared.Reading.{Reading}
use Rattle.spec_file.specs.Limit.{access_groups, most}
use Rattle.spec_table.specs.Check.{is_table}
use Rattle.spec_decision.specs.Groups.{Numbered, group_named}
use Rattle.spec_load.specs.declared.Loaded.{Loaded}
use Rattle.spec_load.specs.declared.Loaded.TheVariants as loaded
use Rattle.spec_load.specs.Load.{is_accepted, load}
use Rattle.spec_load.proofs.laws.Load.{refused_leaves}
use Rattle.spec_register.specs.declared.Refused.{Refused}
use Rattle.spec_register.specs.declared.Refused.TheVariants.{BadLevel, LongName, NoPlace, NoClient}
use Rattle.spec_register.specs.Register.{Client, Register, most_clients, letters, never_heard, with_client, with_reading, unheard, readings_at}
use Rattle.spec_register.specs.Refusal.{long_name, bad_level, all_taken, no_client, add_refusal, change_refusal, remove_refusal, set_refusal, lowest_free}
use Rattle.spec_register.specs.Calls.{Gateway, Call, add, change, remove, set_reading, load_again, unless, reading_set, after_load, after}
use Rattle.spec_register.proofs.laws.Input.{settable}
use Rattle.spec_register.proofs.laws.Lowest.{lowest_within}
use Rattle.spec_register.proofs.laws.From.{given_at, given_length, given_beyond, given_same, given_set, given_one}
use Rattle.spec_places.specs.Storage.{Lent, places_bytes, all_readings, are_places, client_in, clients_in, standing_in, readings_in, register_in}
use Rattle.spec_places.specs.Writing.{entered, freed, renewed, settled}
use Rattle.spec_places.specs.Calls.{are_states, are_values, free_in, places_added, places_changed, with_reading_in, reloaded_by, has_room, with_places, left}
use Rattle.spec_places.proofs.laws.Each.{each_length, each_at}
use Rattle.spec_places.proofs.laws.Fits.{Fits, not_first, fits_added, fits_changed}
use Rattle.spec_places.proofs.laws.Frame.{Local, entered_local, freed_local, settled_local, renewed_local}
use Rattle.spec_places.proofs.laws.Own.{client_entered, kept_entered, client_freed, kept_freed, client_settled, client_renewed}
use Rattle.spec_places.proofs.laws.Readings as held
use Rattle.spec_places.proofs.laws.Records.{record_at, client_same}
use Rattle.spec_places.proofs.laws.Settled.{PlaceSettled, Settled, has_places, has_states, has_values, room_of, place_taken, place_free}
use Rattle.spec_places.proofs.laws.Stays.{same_record, stays_settled, stays_renewed}

-- what a gateway keeps, as it stands in lent storage
abbrev pub gateway_in : Lent → Gateway
gateway_in s = record { table = s.table; register = register_in s }

-- storage that is settled, and is what a gateway keeps
pub record Holds (s : Lent) (g : Gateway) : Type 0 where
  pub settled : Settled s
  pub same : gateway_in s ≡ g

-- ---- where a client may be written

free_inside : (b : List ℕ) (c : Client) → add_refusal (standing_in b) c ≡ none → free_in b < most_clients
free_inside b c e =
    let r = standing_in b in
    let taken = first_if (all_taken r) NoPlace none in
    let x = not_first (long_name c) LongName (first_if (bad_level c) BadLevel taken) e in
    let y = not_first (bad_level c) BadLevel taken x.1 in
    let z = not_first (all_taken r) NoPlace none y.1 in
    let n : lowest_free (clients_in b) ≢ length (clients_in b) = eqb-false (lowest_free (clients_in b)) (length (clients_in b)) z.0 in
    omega (arith, lowest_within (clients_in b), given_length (client_in b) most_clients)

-- a place with a client is one of the 64
taken_inside : (b : List ℕ) (p : ℕ) → no_client (standing_in b) p ≡ false → p < most_clients
taken_inside b p e = by (dec_lt p most_clients)
  where
    by : Dec (p < most_clients) → p < most_clients
    by (yes l) = l
    by (no n) = absurd (false≢true (sym e ∙ ap missing (given_beyond (client_in b) most_clients p none (omega arith))))

-- states that a load has overwritten
zeros_over : (l : List ℕ) (n k : ℕ) → k < n → n ≤ length l → ◌≡◌ {A = ℕ} (get_or (sets l 0 (replicate n 0)) k 0) 0
zeros_over l n k m h =
    let size = length-replicate {A = ℕ} n 0 in
    ap (λ (j : ℕ). get_or (sets l 0 (replicate n 0)) j 0) (sym (zero-add k))
    ∙ get_d_sets (replicate n 0) l 0 k 0 (omega arith) (omega arith)
    ∙ get_or-replicate n k 0 0 m

module _ (s : Lent) (h : Settled s) where
  abbrev b : List ℕ
  b = s.places

  abbrev t : List ℕ
  t = s.table

  abbrev rs : ℕ → List Reading
  rs = readings_in s.states s.values

  enough : places_bytes ≤ length b
  enough = leb-true places_bytes (length b) (has_places s h.room)

  still_places : (c : List ℕ) → length c ≡ length b → are_places c ≡ true
  still_places c e = le-leb places_bytes (length c) (omega (arith, enough))

  long_states : all_readings ≤ length s.states
  long_states = leb-true all_readings (length s.states) (has_states s h.room)

  still_states : (c : List ℕ) → length c ≡ length s.states → are_states c ≡ true
  still_states c e = le-leb all_readings (length c) (omega (arith, long_states))

  long_values : all_readings ≤ length s.values
  long_values = leb-true all_readings (length s.values) (has_values s h.room)

  still_values : (c : List Float) → length c ≡ length s.values → are_values c ≡ true
  still_values c e = le-leb all_readings (length c) (omega (arith, long_values))

  stays : Holds s (gateway_in s)
  stays = record { settled = h; same = refl }

  -- ---- one place is written

  module _ (f : List ℕ → ℕ → List ℕ) (k : Local f) (p : ℕ) (l : p < most_clients) (o : Option Client) where
    written :
        client_in (f b p) p ≡ o → PlaceSettled t rs (f b p) p
        → Holds (with_places s (f b p)) (record { table = t; register = with_client (register_in s) p o })
    written e new =
        record {
          settled =
              record {
                room =
                    room_of (with_places s (f b p)) (still_places (f b p) (k.same_length b p)) (has_states s h.room) (has_values s h.room);
                places = λ q m. by q m (ℕ_discrete q p);
              };
          same =
              ap
              (λ (cs : List (Option Client)). record { table = t; register = record { clients = cs; readings = (register_in s).readings } })
              (given_set
              (client_in b)
              (client_in (f b p))
              most_clients
              p
              o
              l
              e
              (λ q m d. client_same (f b p) b q (k.other b p q d)));
        }
      where
        by : (q : ℕ) → q < most_clients → Dec (q ≡ p) → PlaceSettled t rs (f b p) q
        by q m (yes z) = subst (PlaceSettled t rs (f b p)) (sym z) new
        by q m (no d) = same_record t rs (f b p) b q (k.other b p q d) (h.places q m)

  enters :
      (p : ℕ) (c : Client) → p < most_clients → Fits c
      → Holds (with_places s (entered t rs b p c)) (record { table = t; register = with_client (register_in s) p (some c) })
  enters p c l f =
      let e = client_entered b p enough l t rs c f in
      written
      (λ b p. entered t rs b p c)
      (entered_local t rs c f)
      p
      l
      (some c)
      e
      (place_taken t rs (entered t rs b p c) p c e f (kept_entered b p enough l t rs c))

  frees : (p : ℕ) → p < most_clients → Holds (with_places s (freed b p)) (record { table = t; register = with_client (register_in s) p none })
  frees p l =
      let e = client_freed b p enough l in
      written freed freed_local p l none e (place_free t rs (freed b p) p e (kept_freed b p enough l))

  -- ---- add, change, remove

  -- what a refused call or none leaves
  abbrev ToldHolds : Option Refused → List ℕ → Register → Type 0
  ToldHolds o c r = Holds (with_places s (unless o c b)) (record { table = t; register = unless o r (register_in s) })

  pub add_holds : (c : Client) → Holds (left s (add c)) (after (gateway_in s) (add c))
  unfolding places_added
  add_holds c =
      subst
      (λ (x : Bool). Holds (with_places s (cond x (unless refusal (entered t rs b (free_in b) c) b) b)) (after (gateway_in s) (add c)))
      (sym h.room)
      (by refusal refl)
    where
      refusal : Option Refused
      refusal = add_refusal (standing_in b) c

      by :
          (o : Option Refused) → add_refusal (standing_in b) c ≡ o
          → ToldHolds o (entered t rs b (free_in b) c) (with_client (register_in s) (free_in b) (some c))
      by none e = enters (free_in b) c (free_inside b c e) (fits_added (standing_in b) c e)
      by (some x) e = stays

  pub change_holds : (p : ℕ) (c : Client) → Holds (left s (change p c)) (after (gateway_in s) (change p c))
  unfolding places_changed
  change_holds p c =
      subst
      (λ (x : Bool). Holds (with_places s (cond x (unless refusal (entered t rs b p c) b) b)) (after (gateway_in s) (change p c)))
      (sym h.room)
      (by refusal refl)
    where
      refusal : Option Refused
      refusal = change_refusal (standing_in b) p c

      by : (o : Option Refused) → change_refusal (standing_in b) p c ≡ o → ToldHolds o (entered t rs b p c) (with_client (register_in s) p (some c))
      by none e =
          let others = first_if (long_name c) LongName (first_if (bad_level c) BadLevel none) in
          enters p c (taken_inside b p (not_first (no_client (standing_in b) p) NoClient others e).0) (fits_changed (standing_in b) p c e)
      by (some x) e = stays

  pub remove_holds : (p : ℕ) → Holds (left s (remove p)) (after (gateway_in s) (remove p))
  remove_holds p =
      subst
      (λ (x : Bool). Holds (with_places s (cond x (unless refusal (freed b p) b) b)) (after (gateway_in s) (remove p)))
      (sym (has_places s h.room))
      (by refusal refl)
    where
      refusal : Option Refused
      refusal = remove_refusal (standing_in b) p

      by : (o : Option Refused) → remove_refusal (standing_in b) p ≡ o → ToldHolds o (freed b p) (with_client (register_in s) p none)
      by none e = frees p (taken_inside b p (not_first (no_client (standing_in b) p) NoClient none e).0)
      by (some x) e = stays

  -- ---- a reading is set

  module _ (g : Numbered) (letter : ℕ) (x : Reading) (tab : is_table t ≡ true) (few : g.number < most access_groups) (l : letter < letters) where
    abbrev number : ℕ
    number = g.number

    abbrev set_now : Lent
    set_now = with_reading_in s (some g) letter x

    abbrev qs : ℕ → List Reading
    qs = readings_in set_now.states set_now.values

    local : (r : List Reading) → Local (renewed t number r)
    local r = renewed_local t number r tab

    renewed_at : (q : ℕ) → q < most_clients → record_at q set_now.places ≡ record_at q (renewed t number (qs number) b q)
    renewed_at q m = each_at (local (qs number)) most_clients q b m

    others : (k : ℕ) → k ≢ number → qs k ≡ rs k
    others k d = held.reading_kept s.states s.values number letter x l k d

    this : qs number ≡ set (readings_at (register_in s) number) letter x
    this =
        held.reading_set s.states s.values number letter x l (omega (arith, long_states)) (omega (arith, long_values))
        ∙ ap (λ (r : List Reading). set r letter x) (sym (given_at rs (most access_groups) number never_heard few))

    client_stays : (q : ℕ) → q < most_clients → client_in set_now.places q ≡ client_in b q
    client_stays q m = client_same set_now.places (renewed t number (qs number) b q) q (renewed_at q m) ∙ client_renewed t b q number (qs number)

    sets_reading : Holds set_now (record { table = t; register = with_reading (register_in s) number letter x })
    sets_reading =
        record {
          settled =
              record {
                room =
                    room_of
                    set_now
                    (still_places set_now.places (each_length (local _) most_clients b))
                    (still_states set_now.states (length-set s.states _ _))
                    (still_values set_now.values (length-set s.values _ _));
                places =
                    λ q m.
                    same_record
                    t
                    qs
                    set_now.places
                    (renewed t number (qs number) b q)
                    q
                    (renewed_at q m)
                    (stays_renewed t number rs qs others b q (h.places q m));
              };
          same =
              ap₂
              (λ (cs : List (Option Client)) (r : List (List Reading)). record { table = t; register = record { clients = cs; readings = r } })
              (given_same (client_in set_now.places) (client_in b) most_clients client_stays)
              (given_set rs qs (most access_groups) number (set (readings_at (register_in s) number) letter x) few this (λ k m d. others k d));
        }

  pub set_holds : (n : List ℕ) (letter : ℕ) (x : Reading) → Holds (left s (set_reading n letter x)) (after (gateway_in s) (set_reading n letter x))
  set_holds n letter x =
      subst
      (λ (y : Bool). Holds (cond y (unless refusal (with_reading_in s (group_named t n) letter x) s) s) (after (gateway_in s) (set_reading n letter x)))
      (sym h.room)
      (by refusal refl)
    where
      refusal : Option Refused
      refusal = set_refusal t n letter

      by :
          (o : Option Refused) → set_refusal t n letter ≡ o
          → Holds
          (unless o (with_reading_in s (group_named t n) letter x) s)
          (record { table = t; register = unless o (reading_set (register_in s) (group_named t n) letter x) (register_in s) })
      by none e =
          let k = settable t n letter e in
          subst
          (λ (o : Option Numbered). Holds (with_reading_in s o letter x) (record { table = t; register = reading_set (register_in s) o letter x }))
          (sym k.1.named)
          (sets_reading k.0 letter x k.1.table k.1.number k.1.lettered)
      by (some y) e = stays

  -- ---- a load

  module _ (u : List ℕ) (n w : ℕ) where
    abbrev loaded_now : Lent
    loaded_now = reloaded_by s u (loaded.Accepted n w)

    abbrev heard_now : ℕ → List Reading
    heard_now = readings_in loaded_now.states loaded_now.values

    nothing_heard : (i : ℕ) → i < most access_groups → heard_now i ≡ never_heard
    nothing_heard i l =
        held.none_heard loaded_now.states loaded_now.values (i * letters) letters
        (λ j k. zeros_over s.states all_readings (i * letters + j) (omega arith) long_states)

    settled_at : (q : ℕ) → q < most_clients → record_at q loaded_now.places ≡ record_at q (settled u b q)
    settled_at q m = each_at (settled_local u) most_clients q b m

    client_left : (q : ℕ) → q < most_clients → client_in loaded_now.places q ≡ client_in b q
    client_left q m = client_same loaded_now.places (settled u b q) q (settled_at q m) ∙ client_settled u b q

    loads : Holds loaded_now (record { table = u; register = unheard (register_in s) })
    loads =
        record {
          settled =
              record {
                room =
                    room_of
                    loaded_now
                    (still_places loaded_now.places (each_length (settled_local _) most_clients b))
                    (still_states loaded_now.states (length-sets s.states 0 (replicate all_readings 0)))
                    (has_values s h.room);
                places =
                    λ q m.
                    same_record
                    u
                    heard_now
                    loaded_now.places
                    (settled u b q)
                    q
                    (settled_at q m)
                    (stays_settled t u rs heard_now nothing_heard b q enough m (h.places q m));
              };
          same =
              ap₂
              (λ (cs : List (Option Client)) (r : List (List Reading)). record { table = u; register = record { clients = cs; readings = r } })
              (given_same (client_in loaded_now.places) (client_in b) most_clients client_left)
              (given_one heard_now (most access_groups) never_heard nothing_heard);
        }

  pub load_holds : (text : List ℕ) → Holds (left s (load_again text)) (after (gateway_in s) (load_again text))
  load_holds text =
      subst
      (λ (y : Bool). Holds (cond y (reloaded_by s now (load t text).answer) s) (after (gateway_in s) (load_again text)))
      (sym roomy)
      (by (load t text).answer refl)
    where
      now : List ℕ
      now = (load t text).bytes

      roomy : has_room s ≡ true
      roomy = rw (has_places s h.room, has_states s h.room)

      by : (a : Loaded) → (load t text).answer ≡ a → Holds (reloaded_by s now a) (record { table = now; register = after_load a (register_in s) })
      by (loaded.Accepted n w) e = loads now n w
      by (loaded.Refused r p) e =
          record {
            settled = h;
            same = ap (λ (u : List ℕ). record { table = u; register = register_in s }) (sym (refused_leaves t text (ap is_accepted e)));
          }

-- ---- any call

pub call_holds : (s : Lent) → Settled s → (c : Call) → Holds (left s c) (after (gateway_in s) c)
call_holds s h (add c) = add_holds s h c
call_holds s h (change p c) = change_holds s h p c
call_holds s h (remove p) = remove_holds s h p
call_holds s h (set_reading n letter x) = set_holds s h n letter x
call_holds s h (load_again text) = load_holds s h text
