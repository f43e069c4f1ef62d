-- The record of a place: all that is read of the place is read out of it.
use Rattle.std.specs.Prelude.{◌≡◌, refl, Bool, true, false, cond, ◌&&◌, List, ℕ, suc, ◌+◌, ◌≤◌, ◌<◌, min, leb, length, get_or}
use Rattle.std.proofs.Common.{sym, ap, ap₂, ◌∙◌, add-zero, arith, le-leb}
use Rattle.std.proofs.Math.Option.{none, some}
use Rattle.std.proofs.lemmas.Bool.{lt-leb}
use Rattle.spec_lists.specs.Runs.{Run, part}
use Rattle.spec_rule.specs.Kept.{says_stands}
use Rattle.spec_rule.specs.Decision.{no_access}
use Rattle.spec_rule.specs.Number.{decision_from}
use Rattle.spec_rule.proofs.laws.Walk.{part_at, part_count}
use Rattle.spec_file.specs.Limit.{longest_name}
use Rattle.spec_table.proofs.laws.Fields.{part_part}
use Rattle.spec_register.specs.Register.{Client, most_clients}
use Rattle.spec_places.specs.Storage.{place_bytes, places_bytes, at_place, kept_at, length_at, names_at, client_from, client_in}
use Rattle.spec_places.specs.Storage.{are_places, right_in}

-- where a place's record stands
abbrev pub record_run : ℕ → Run
record_run q = record { first = at_place q; count = place_bytes }

abbrev pub record_at : ℕ → List ℕ → List ℕ
record_at q b = part (record_run q) b

-- what a place keeps, n bytes of it
abbrev pub kept_run : ℕ → ℕ → Run
kept_run q n = record { first = kept_at q; count = n }

pub record_length : (b : List ℕ) (q : ℕ) → places_bytes ≤ length b → q < most_clients → length (record_at q b) ≡ place_bytes
record_length b q h l = part_count (record_run q) b (omega arith)

-- ---- its client

-- the client is read out of the first 185 bytes
module _ (b : List ℕ) (q n : ℕ) (h : 185 ≤ n) where
  abbrev front : List ℕ
  front = part (record { first = at_place q; count = n }) b

  byte_in : (i : ℕ) → i < 185 → get_or b (at_place q + i) 0 ≡ get_or front i 0
  byte_in i l = sym (part_at (record { first = at_place q; count = n }) b 0 i (omega arith))

  part_in : (i m at : ℕ) → i + m ≤ 185 → at ≡ at_place q + i → part (record { first = at; count = m }) b ≡ part (record { first = i; count = m }) front
  part_in i m at l e =
      ap (λ (k : ℕ). part (record { first = k; count = m }) b) e
      ∙ sym (part_part (record { first = i; count = m }) (record { first = at_place q; count = n }) b (omega arith))

  names_in : (g u e : ℕ) → g ≤ longest_name → u ≤ longest_name → e ≤ longest_name → names_at b (at_place q) g u e ≡ names_at front 0 g u e
  names_in g u e x y z =
      let group = part_in 5 g (at_place q + 5) (omega arith) refl in
      let level = byte_in 1 (omega arith) in
      let user = part_in (5 + g) u (at_place q + 5 + g) (omega arith) (omega arith) in
      let host = part_in (5 + g + u) e (at_place q + 5 + g + u) (omega arith) (omega arith) in
      λ i. record { group = group i; level = level i; user = user i; host = host i }

  from_front : client_from b (at_place q) ≡ client_from front 0
  from_front =
      let same : (i : ℕ) → i < 185 → length_at b (at_place q + i) ≡ length_at front i = λ i l. ap (λ (k : ℕ). min k longest_name) (byte_in i l) in
      let g = same 2 (omega arith) in
      let u = same 3 (omega arith) in
      let e = same 4 (omega arith) in
      names_in
      (length_at b (at_place q + 2))
      (length_at b (at_place q + 3))
      (length_at b (at_place q + 4))
      (omega arith)
      (omega arith)
      (omega arith)
      ∙ (λ i. names_at front 0 (g i) (u i) (e i))

  pub client_by_front : client_in b q ≡ client_in front 0
  client_by_front =
      ap₂
      (λ (k : ℕ) (c : Client). cond (says_stands k) (some c) none)
      (ap (λ (k : ℕ). get_or b k 0) (sym (add-zero (at_place q))) ∙ byte_in 0 (omega arith))
      from_front

pub client_by_record : (b : List ℕ) (q : ℕ) → client_in b q ≡ client_in (record_at q b) 0
client_by_record b q = client_by_front b q place_bytes (omega arith)

-- ---- what it keeps

pub kept_by_record : (b : List ℕ) (q i : ℕ) → i < 263 → get_or b (kept_at q + i) 0 ≡ get_or (record_at q b) (185 + i) 0
kept_by_record b q i h =
    let z : kept_at q + i ≡ at_place q + (185 + i) = omega arith in
    ap (λ (k : ℕ). get_or b k 0) z ∙ sym (part_at (record_run q) b 0 (185 + i) (omega arith))

pub kept_part_by_record :
    (b : List ℕ) (q i n : ℕ) → i + n ≤ 263
    → part (record { first = kept_at q + i; count = n }) b ≡ part (record { first = 185 + i; count = n }) (record_at q b)
kept_part_by_record b q i n h =
    let z : kept_at q + i ≡ at_place q + (185 + i) = omega arith in
    ap (λ (k : ℕ). part (record { first = k; count = n }) b) z ∙ sym (part_part (record { first = 185 + i; count = n }) (record_run q) b (omega arith))

-- ---- its right

pub right_read : (b : List ℕ) (q : ℕ) → places_bytes ≤ length b → q < most_clients → right_in b q ≡ decision_from (get_or b (kept_at q + 1) 0)
right_read b q h l =
    ap₂
    (λ (x y : Bool). cond (x && y) (decision_from (get_or b (kept_at q + 1) 0)) no_access)
    (le-leb places_bytes (length b) h)
    (le-leb (suc q) most_clients l)

-- a place that is none
pub right_beyond : (b : List ℕ) (q : ℕ) → most_clients ≤ q → right_in b q ≡ no_access
right_beyond b q h = rw (lt-leb (suc q) most_clients (omega arith)) (go (are_places b))
  where
    go : (t : Bool) → cond (t && false) (decision_from (get_or b (kept_at q + 1) 0)) no_access ≡ no_access
    go true = refl
    go false = refl

-- ---- so places with the same record are read alike

module _ (b c : List ℕ) (q : ℕ) (e : record_at q b ≡ record_at q c) where
  pub client_same : client_in b q ≡ client_in c q
  client_same = client_by_record b q ∙ ap (λ (r : List ℕ). client_in r 0) e ∙ sym (client_by_record c q)

  pub byte_same : (i : ℕ) → i < place_bytes → get_or b (at_place q + i) 0 ≡ get_or c (at_place q + i) 0
  byte_same i h = sym (part_at (record_run q) b 0 i h) ∙ ap (λ (r : List ℕ). get_or r i 0) e ∙ part_at (record_run q) c 0 i h

  pub kept_byte_same : (i : ℕ) → i < 263 → get_or b (kept_at q + i) 0 ≡ get_or c (kept_at q + i) 0
  kept_byte_same i h = kept_by_record b q i h ∙ ap (λ (r : List ℕ). get_or r (185 + i) 0) e ∙ sym (kept_by_record c q i h)

  pub number_same : get_or b (kept_at q) 0 ≡ get_or c (kept_at q) 0
  number_same = byte_same 185 (omega arith)

  pub decision_same : get_or b (kept_at q + 1) 0 ≡ get_or c (kept_at q + 1) 0
  decision_same = kept_byte_same 1 (omega arith)

  pub kept_part_same : (i n : ℕ) → i + n ≤ 263 → part (record { first = kept_at q + i; count = n }) b ≡ part (record { first = kept_at q + i; count = n }) c
  kept_part_same i n h =
      kept_part_by_record b q i n h
      ∙ ap (part (record { first = 185 + i; count = n })) e
      ∙ sym (kept_part_by_record c q i n h)

  pub kept_same : (n : ℕ) → n ≤ 258 → part (kept_run q n) b ≡ part (kept_run q n) c
  kept_same n h = rw add-zero at (kept_part_same 0 n (omega arith))

  pub right_same : length b ≡ length c → right_in b q ≡ right_in c q
  right_same l =
      ap₂ (λ (m k : ℕ). cond (leb places_bytes m && leb (suc q) most_clients) (decision_from k) no_access) l decision_same
