-- A register's storage is settled where each place keeps what the table and the readings say of its client. Then each kept right is what a question
-- would answer, and zeros are settled.
use Rattle.std.specs.Prelude.{◌≡◌, refl, true, cond, ◌&&◌, List, [], ◌∷◌, ℕ, suc, ◌+◌, ◌*◌, ◌≤◌, ◌<◌, Float, length, get_or, take, replicate}
use Rattle.std.proofs.Common.{sym, ap, ap₂, subst, ◌∙◌, arith, drop-cons, le-leb}
use Rattle.std.proofs.Math.Option.{Option, none, some}
use Rattle.std.proofs.Math.Decide.{dec_lt}
use Rattle.std.proofs.lemmas.List.{length-replicate}
use Rattle.std.proofs.lemmas.Bool.{lt-leb}
use Rattle.spec_lists.specs.Runs.{part}
use Rattle.spec_lists.proofs.laws.Both.{both}
use Rattle.spec_calc.specs.declared.Reading.{Reading}
use Rattle.spec_rule.specs.Kept.{says_stands}
use Rattle.spec_rule.specs.Answering.{greatest_level}
use Rattle.spec_rule.specs.Number.{decision_from}
use Rattle.spec_rule.proofs.laws.Walk.{part_at}
use Rattle.spec_file.specs.Limit.{access_groups, most}
use Rattle.spec_register.specs.Register.{Client, most_clients, letters, never_heard, empty, readings_at}
use Rattle.spec_register.specs.Right.{right_of, right}
use Rattle.spec_register.proofs.laws.Sized.{at_replicate}
use Rattle.spec_register.proofs.laws.From.{given_at, given_beyond, given_one}
use Rattle.spec_places.specs.Storage.{Lent, zeroed, places_bytes, all_readings, are_places, kept_at, nothing_kept, client_in, clients_in, readings_in}
use Rattle.spec_places.specs.Storage.{register_in, right_in, at_place, client_from}
use Rattle.spec_places.specs.Writing.{kept}
use Rattle.spec_places.specs.Calls.{are_states, are_values, is_register}
use Rattle.spec_places.proofs.laws.Fits.{Fits, kept_least}
use Rattle.spec_places.proofs.laws.Numbers.{kept_decides}
use Rattle.spec_places.proofs.laws.Readings.{none_heard}
use Rattle.spec_places.proofs.laws.Records.{kept_run}

-- what a place is to keep of its client
abbrev pub kept_for : List ℕ → (ℕ → List Reading) → Option Client → List ℕ
kept_for t rs none = nothing_kept
kept_for t rs (some c) = kept t rs c

-- a place that keeps it
pub record PlaceSettled (t : List ℕ) (rs : ℕ → List Reading) (b : List ℕ) (p : ℕ) : Type 0 where
  pub fits : (c : Client) → client_in b p ≡ some c → Fits c
  pub keeps : part (kept_run p (length (kept_for t rs (client_in b p)))) b ≡ kept_for t rs (client_in b p)

pub record Settled (s : Lent) : Type 0 where
  pub room : is_register s ≡ true
  pub places : (p : ℕ) → p < most_clients → PlaceSettled s.table (readings_in s.states s.values) s.places p

-- ---- the slices are long enough

module _ (s : Lent) (h : is_register s ≡ true) where
  pub has_places : are_places s.places ≡ true
  has_places = (both (are_places s.places) (are_states s.states && are_values s.values) h).0

  pub has_states : are_states s.states ≡ true
  has_states =
      (both (are_states s.states) (are_values s.values) (both (are_places s.places) (are_states s.states && are_values s.values) h).1).0

  pub has_values : are_values s.values ≡ true
  has_values =
      (both (are_states s.states) (are_values s.values) (both (are_places s.places) (are_states s.states && are_values s.values) h).1).1

-- it is enough that each is
pub room_of : (s : Lent) → are_places s.places ≡ true → are_states s.states ≡ true → are_values s.values ≡ true → is_register s ≡ true
room_of s p q r = rw (p, q, r)

-- ---- a place's client and its kept bytes

-- a place is settled by what is known of its client
pub place_of :
    (t : List ℕ) (rs : ℕ → List Reading) (b : List ℕ) (p : ℕ) (o : Option Client) → client_in b p ≡ o → ((c : Client) → o ≡ some c → Fits c)
    → part (kept_run p (length (kept_for t rs o))) b ≡ kept_for t rs o → PlaceSettled t rs b p
place_of t rs b p o e f k =
    record {
      fits = λ c g. f c (sym e ∙ g);
      keeps = subst (λ (q : Option Client). part (kept_run p (length (kept_for t rs q))) b ≡ kept_for t rs q) (sym e) k;
    }

-- one that is free
pub place_free :
    (t : List ℕ) (rs : ℕ → List Reading) (b : List ℕ) (p : ℕ) → client_in b p ≡ none → part (kept_run p 2) b ≡ nothing_kept → PlaceSettled t rs b p
place_free t rs b p e k = place_of t rs b p none e (λ c g. let z : ◌≡◌ {A = ℕ} 0 1 = cc in absurd (omega arith)) k

-- one that is taken
pub place_taken :
    (t : List ℕ) (rs : ℕ → List Reading) (b : List ℕ) (p : ℕ) (c : Client) → client_in b p ≡ some c → Fits c
    → part (kept_run p (length (kept t rs c))) b ≡ kept t rs c → PlaceSettled t rs b p
place_taken t rs b p c e f k = place_of t rs b p (some c) e (λ d g. let z : c ≡ d = cc in subst Fits z f) k

pub client_of_place : (b : List ℕ) (p : ℕ) → p < most_clients → get_or (clients_in b) p none ≡ client_in b p
client_of_place b p l = given_at (client_in b) most_clients p none l

kept_for_least : (t : List ℕ) (rs : ℕ → List Reading) (o : Option Client) → 2 ≤ length (kept_for t rs o)
kept_for_least t rs none = omega arith
kept_for_least t rs (some c) = kept_least t rs c

module _ (t : List ℕ) (rs : ℕ → List Reading) (b : List ℕ) (p : ℕ) (h : PlaceSettled t rs b p) where
  pub number_kept : get_or b (kept_at p) 0 ≡ get_or (kept_for t rs (client_in b p)) 0 0
  number_kept =
      let ks = kept_for t rs (client_in b p) in
      let z : kept_at p ≡ kept_at p + 0 = omega arith in
      ap (λ (k : ℕ). get_or b k 0) z
      ∙ sym (part_at (kept_run p (length ks)) b 0 0 (omega (arith, kept_for_least t rs (client_in b p))))
      ∙ ap (λ (l : List ℕ). get_or l 0 0) h.keeps

  pub code_kept : get_or b (kept_at p + 1) 0 ≡ get_or (kept_for t rs (client_in b p)) 1 0
  code_kept =
      let ks = kept_for t rs (client_in b p) in
      sym (part_at (kept_run p (length ks)) b 0 1 (omega (arith, kept_for_least t rs (client_in b p))))
      ∙ ap (λ (l : List ℕ). get_or l 1 0) h.keeps

-- ---- each right is what a question would answer

module _ (s : Lent) (h : Settled s) where
  readings_stand : (i : ℕ) → i < most access_groups → readings_in s.states s.values i ≡ readings_at (register_in s) i
  readings_stand i l = sym (given_at (readings_in s.states s.values) (most access_groups) i never_heard l)

  pub right_settled : (p : ℕ) → right_in s.places p ≡ right s.table (register_in s) p
  right_settled p = by (dec_lt p most_clients)
    where
      rs : ℕ → List Reading
      rs = readings_in s.states s.values

      of_client :
          (o : Option Client) → ((c : Client) → o ≡ some c → Fits c)
          → decision_from (get_or (kept_for s.table rs o) 1 0) ≡ right_of s.table (register_in s) o
      of_client none f = refl
      of_client (some c) f = kept_decides s.table (register_in s) rs c (le-leb c.level greatest_level (f c refl).level) readings_stand

      by : Dec (p < most_clients) → right_in s.places p ≡ right s.table (register_in s) p
      by (yes l) =
          let o = client_in s.places p in
          let q = h.places p l in
          rw
          (has_places s h.room, le-leb (suc p) most_clients l)
          (ap decision_from (code_kept s.table rs s.places p q)
          ∙ of_client o q.fits
          ∙ ap (right_of s.table (register_in s)) (sym (client_of_place s.places p l)))
      by (no n) =
          rw
          (has_places s h.room, lt-leb (suc p) most_clients (omega arith))
          (ap (right_of s.table (register_in s)) (sym (given_beyond (client_in s.places) most_clients p none (omega arith))))

-- ---- zeros

two_at : (b : List ℕ) (k : ℕ) → suc k < length b → part (record { first = k; count = 2 }) b ≡ get_or b k 0 ∷ get_or b (suc k) 0 ∷ []
two_at b k l =
    ap (take 2) (drop-cons b k 0 (omega arith)) ∙ ap (λ (xs : List ℕ). get_or b k 0 ∷ take 1 xs) (drop-cons b (suc k) 0 l)

no_client : (n p : ℕ) → client_in (replicate n 0) p ≡ none
no_client n p = ap (λ (k : ℕ). cond (says_stands k) (some (client_from (replicate n 0) (at_place p))) none) (at_replicate n 0 (at_place p))

module _ (t : List ℕ) (n m : ℕ) (v : List Float) (hn : places_bytes ≤ n) (hm : all_readings ≤ m) (hv : all_readings ≤ length v) where
  pub zeros_settled : Settled (zeroed t n m v)
  zeros_settled =
      record {
        room =
            room_of
            (zeroed t n m v)
            (le-leb places_bytes (length b) (omega (arith, size)))
            (le-leb all_readings (length (replicate m 0)) (omega (arith, length-replicate {A = ℕ} m 0)))
            (le-leb all_readings (length v) hv);
        places =
            λ p l.
            place_free
            t
            (readings_in (replicate m 0) v)
            b
            p
            (no_client n p)
            (two_at b (kept_at p) (omega (arith, size))
            ∙ ap₂ (λ (x y : ℕ). x ∷ y ∷ []) (at_replicate n 0 (kept_at p)) (at_replicate n 0 (suc (kept_at p))));
      }
    where
      b : List ℕ
      b = replicate n 0

      size : length b ≡ n
      size = length-replicate n 0

  pub zeros_empty : register_in (zeroed t n m v) ≡ empty
  zeros_empty =
      let clients = given_one (client_in (replicate n 0)) most_clients none (λ p l. no_client n p) in
      let readings =
      given_one
      (readings_in (replicate m 0) v)
      (most access_groups)
      never_heard
      (λ i l. none_heard (replicate m 0) v (i * letters) letters (λ j k. at_replicate m 0 (i * letters + j))) in
      λ i. record { clients = clients i; readings = readings i }
