-- What a call leaves of the place that it writes.
use Rattle.std.specs.Prelude.{◌≡◌, refl, ◌≢◌, Bool, true, false, cond, List, [], ◌∷◌, ◌++◌, ℕ, suc, ◌+◌, ◌≤◌, ◌<◌, min, eqb, length, get_or, set}
use Rattle.std.proofs.Common.{sym, ap, ap₂, ◌∙◌, append_assoc, append-nil, zero-add, arith, length-append, length-set, get_or-set_same, get_or-set_other, eq-eqb, ne_eqb}
use Rattle.std.proofs.Math.Option.{Option, none, some}
use Rattle.std.proofs.Math.Nat.{min-eq_left}
use Rattle.std.proofs.lemmas.List.Edits.{sets}
use Rattle.std.proofs.Math.Seq.{length-sets}
use Rattle.spec_lists.specs.Runs.{Run, part}
use Rattle.spec_lists.proofs.laws.Joined.{part_seam}
use Rattle.spec_lists.proofs.laws.Sets.{get_d_sets, get_d_sets_before, part_set, part_set_before, part_sets_before, part_sets_all, part_sets_inside}
use Rattle.spec_calc.specs.declared.Reading.{Reading}
use Rattle.spec_rule.specs.Kept.{says_stands}
use Rattle.spec_rule.specs.Decision.{no_access}
use Rattle.spec_rule.specs.Number.{decision_from}
use Rattle.spec_file.specs.Limit.{longest_name}
use Rattle.spec_register.specs.Register.{Client, most_clients, never_heard}
use Rattle.spec_places.specs.Storage.{place_bytes, places_bytes, at_place, kept_at, client_bytes, nothing_kept, length_at, client_from, client_in}
use Rattle.spec_places.specs.Storage.{right_in}
use Rattle.spec_places.specs.Writing.{rules_at, kept, entered, freed, kept_right, renewed, settled_client, settled}
use Rattle.spec_places.proofs.laws.Fits.{Fits, client_length, kept_length, kept_least}
use Rattle.spec_places.proofs.laws.Records.{record_at, record_length, kept_run, client_by_record, client_by_front, right_read}
use Rattle.spec_places.proofs.laws.Frame.{entered_local}

-- ---- a client that stands in a record

module _ (c : Client) (f : Fits c) (r ws : List ℕ) (h : length r ≡ place_bytes) where
  abbrev written : List ℕ
  written = sets (sets r 0 (client_bytes c)) 185 ws

  short : length (client_bytes c) ≤ 185
  short = client_length c f

  sized : length (client_bytes c) ≡ 5 + (length c.group + (length c.user + length c.host))
  sized = omega (arith, length-append c.group (c.user ++ c.host), length-append c.user c.host)

  byte : (i : ℕ) → i < 5 → get_or written i 0 ≡ get_or (client_bytes c) i 0
  byte i l =
      get_d_sets_before ws (sets r 0 (client_bytes c)) 185 i 0 (omega arith)
      ∙ ap (λ (k : ℕ). get_or (sets r 0 (client_bytes c)) k 0) (sym (zero-add i))
      ∙ get_d_sets (client_bytes c) r 0 i 0 (omega (arith, short)) (omega (arith, sized))

  -- a name behind what stands before it
  name :
      (pre n post : List ℕ) (at : ℕ) → pre ++ (n ++ post) ≡ client_bytes c → at ≡ length pre
      → part (record { first = at; count = length n }) written ≡ n
  name pre n post at e z =
      let l : length pre + length n ≤ length (client_bytes c) =
      omega (arith, ap length e, length-append pre (n ++ post), length-append n post) in
      let run : Run = record { first = length pre; count = length n } in
      ap (λ (k : ℕ). part (record { first = k; count = length n }) written) z
      ∙ part_sets_before ws run (sets r 0 (client_bytes c)) 185 (omega (arith, short))
      ∙ ap (λ (k : ℕ). part (record { first = k; count = length n }) (sets r 0 (client_bytes c))) (sym (zero-add (length pre)))
      ∙ part_sets_inside (client_bytes c) run r 0 (omega (arith, short)) l
      ∙ ap (part run) (sym e)
      ∙ part_seam pre n post

  abbrev head : List ℕ → List ℕ
  head l = 1 ∷ c.level ∷ length c.group ∷ length c.user ∷ length c.host ∷ l

  count : (i n : ℕ) → i < 5 → get_or (client_bytes c) i 0 ≡ n → n ≤ longest_name → length_at written i ≡ n
  count i n l e m = ap (λ (k : ℕ). min k longest_name) (byte i l ∙ e) ∙ min-eq_left m

  standing : client_from written 0 ≡ c
  standing =
      let g = count 2 (length c.group) (omega arith) refl f.group in
      let u = count 3 (length c.user) (omega arith) refl f.user in
      let e = count 4 (length c.host) (omega arith) refl f.host in
      let group =
      ap (λ (n : ℕ). part (record { first = 5; count = n }) written) g ∙ name (head []) c.group (c.user ++ c.host) 5 refl (omega arith) in
      let user =
      ap₂ (λ (m n : ℕ). part (record { first = 5 + m; count = n }) written) g u
      ∙ name (head c.group) c.user c.host (5 + length c.group) refl (omega arith) in
      let last : (c.group ++ c.user) ++ (c.host ++ []) ≡ c.group ++ (c.user ++ c.host) =
      ap (λ (l : List ℕ). (c.group ++ c.user) ++ l) (append-nil c.host) ∙ append_assoc c.group c.user c.host in
      let both : 5 + length c.group + length c.user ≡ length (head (c.group ++ c.user)) = omega (arith, length-append c.group c.user) in
      let host =
      (λ i. part (record { first = 5 + g i + u i; count = e i }) written)
      ∙ name (head (c.group ++ c.user)) c.host [] (5 + length c.group + length c.user) (ap head last) both in
      let level = byte 1 (omega arith) in
      λ i. record { group = group i; level = level i; user = user i; host = host i }

  client_written : client_in written 0 ≡ some c
  client_written = ap₂ (λ (k : ℕ) (x : Client). cond (says_stands k) (some x) none) (byte 0 (omega arith)) standing

-- ---- a place at work: its record lies in the bytes

module _ (b : List ℕ) (p : ℕ) (h : places_bytes ≤ length b) (l : p < most_clients) where
  -- what is kept behind what was written
  kept_written :
      (vs ws : List ℕ) → length ws ≤ 258 → part (kept_run p (length ws)) (sets (sets b (at_place p) vs) (kept_at p) ws) ≡ ws
  kept_written vs ws m =
      part_sets_all ws (sets b (at_place p) vs) (kept_at p) (omega (arith, length-sets b (at_place p) vs))

  code_written :
      (vs ws : List ℕ) → 2 ≤ length ws → length ws ≤ 258
      → right_in (sets (sets b (at_place p) vs) (kept_at p) ws) p ≡ decision_from (get_or ws 1 0)
  code_written vs ws k m =
      let s = sets b (at_place p) vs in
      let n = length-sets b (at_place p) vs in
      right_read (sets s (kept_at p) ws) p (omega (arith, length-sets s (kept_at p) ws)) l
      ∙ ap decision_from (get_d_sets ws s (kept_at p) 1 0 (omega arith) (omega arith))

  -- ---- entered

  module _ (t : List ℕ) (rs : ℕ → List Reading) (c : Client) where
    pub client_entered : Fits c → client_in (entered t rs b p c) p ≡ some c
    client_entered f =
        client_by_record (entered t rs b p c) p
        ∙ ap (λ (r : List ℕ). client_in r 0) ((entered_local t rs c f).own b p)
        ∙ client_written c f (record_at p b) (kept t rs c) (record_length b p h l)

    pub kept_entered : part (kept_run p (length (kept t rs c))) (entered t rs b p c) ≡ kept t rs c
    kept_entered = kept_written (client_bytes c) (kept t rs c) (kept_length t rs c)

    pub right_entered : right_in (entered t rs b p c) p ≡ decision_from (get_or (kept t rs c) 1 0)
    right_entered = code_written (client_bytes c) (kept t rs c) (kept_least t rs c) (kept_length t rs c)

  -- ---- freed

  pub client_freed : client_in (freed b p) p ≡ none
  client_freed =
      let s = sets b (at_place p) (0 ∷ []) in
      ap
      (λ (k : ℕ). cond (says_stands k) (some (client_from (freed b p) (at_place p))) none)
      (get_d_sets_before nothing_kept s (kept_at p) (at_place p) 0 (omega arith) ∙ get_or-set_same b (at_place p) 0 0 (omega arith))

  pub kept_freed : part (kept_run p 2) (freed b p) ≡ nothing_kept
  kept_freed = kept_written (0 ∷ []) nothing_kept (omega arith)

  pub right_freed : right_in (freed b p) p ≡ no_access
  right_freed = code_written (0 ∷ []) nothing_kept (omega arith) (omega arith)

  -- ---- settled

  pub kept_settled :
      (t : List ℕ) (c : Client) → client_in b p ≡ some c
      → part (kept_run p (length (kept t (λ i. never_heard) c))) (settled t b p) ≡ kept t (λ i. never_heard) c
  kept_settled t c e =
      let ks = kept t (λ i. never_heard) c in
      ap (λ (o : Option Client). part (kept_run p (length ks)) (settled_client t b p o)) e
      ∙ part_sets_all ks b (kept_at p) (omega (arith, kept_length t (λ i. never_heard) c))

  pub right_settled :
      (t : List ℕ) (c : Client) → client_in b p ≡ some c → right_in (settled t b p) p ≡ decision_from (get_or (kept t (λ i. never_heard) c) 1 0)
  right_settled t c e =
      let ks = kept t (λ i. never_heard) c in
      ap (λ (o : Option Client). right_in (settled_client t b p o) p) e
      ∙ right_read (sets b (kept_at p) ks) p (omega (arith, length-sets b (kept_at p) ks)) l
      ∙ ap decision_from (get_d_sets ks b (kept_at p) 1 0 (omega (arith, kept_length t (λ i. never_heard) c)) (omega (arith, kept_least t (λ i. never_heard) c)))

  -- ---- renewed

  pub code_renewed :
      (t : List ℕ) (i : ℕ) (rs : List Reading) → get_or b (kept_at p) 0 ≡ suc i
      → get_or (renewed t i rs b p) (kept_at p + 1) 0 ≡ kept_right (rules_at t i) rs b p
  code_renewed t i rs e =
      let v = kept_right (rules_at t i) rs b p in
      rw (eq-eqb (get_or b (kept_at p) 0) (suc i) e) (get_or-set_same b (kept_at p + 1) v 0 (omega arith))

  pub right_renewed :
      (t : List ℕ) (i : ℕ) (rs : List Reading) → get_or b (kept_at p) 0 ≡ suc i
      → right_in (renewed t i rs b p) p ≡ decision_from (kept_right (rules_at t i) rs b p)
  right_renewed t i rs e =
      let v = kept_right (rules_at t i) rs b p in
      rw
      (eq-eqb (get_or b (kept_at p) 0) (suc i) e)
      (right_read (set b (kept_at p + 1) v) p (omega (arith, length-set b (kept_at p + 1) v)) l ∙ ap decision_from (get_or-set_same b (kept_at p + 1) v 0 (omega arith)))

module _ (t : List ℕ) (b : List ℕ) (p : ℕ) where
  -- a place that is free is left as it is
  pub settled_free : client_in b p ≡ none → settled t b p ≡ b
  settled_free e = ap (settled_client t b p) e

  pub client_settled : client_in (settled t b p) p ≡ client_in b p
  client_settled = go (client_in b p)
    where
      go : (o : Option Client) → client_in (settled_client t b p o) p ≡ client_in b p
      go none = refl
      go (some c) =
          let ks = kept t (λ i. never_heard) c in
          let front : Run = record { first = at_place p; count = 185 } in
          client_by_front (sets b (kept_at p) ks) p 185 (omega arith)
          ∙ ap (λ (r : List ℕ). client_in r 0) (part_sets_before ks front b (kept_at p) (omega arith))
          ∙ sym (client_by_front b p 185 (omega arith))

  module _ (i : ℕ) (rs : List Reading) where
    -- a place that another group answers for is left as it is
    pub renewed_other : get_or b (kept_at p) 0 ≢ suc i → renewed t i rs b p ≡ b
    renewed_other n = rw (ne_eqb (get_or b (kept_at p) 0) (suc i) n)

    pub renewed_here : get_or b (kept_at p) 0 ≡ suc i → renewed t i rs b p ≡ set b (kept_at p + 1) (kept_right (rules_at t i) rs b p)
    renewed_here e = rw (eq-eqb (get_or b (kept_at p) 0) (suc i) e)

    -- only the right's byte is written
    pub byte_renewed : (j : ℕ) → j ≢ kept_at p + 1 → get_or (renewed t i rs b p) j 0 ≡ get_or b j 0
    byte_renewed j n = go (eqb (get_or b (kept_at p) 0) (suc i))
      where
        go : (x : Bool) → get_or (cond x (set b (kept_at p + 1) (kept_right (rules_at t i) rs b p)) b) j 0 ≡ get_or b j 0
        go true = get_or-set_other b (kept_at p + 1) j (kept_right (rules_at t i) rs b p) 0 n
        go false = refl

    pub kept_renewed :
        (n : ℕ) → 2 ≤ n → get_or b (kept_at p) 0 ≡ suc i
        → part (kept_run p n) (renewed t i rs b p) ≡ set (part (kept_run p n) b) 1 (kept_right (rules_at t i) rs b p)
    kept_renewed n l e = ap (part (kept_run p n)) (renewed_here e) ∙ part_set (kept_run p n) b 1 (kept_right (rules_at t i) rs b p) (omega arith)

    pub client_renewed : client_in (renewed t i rs b p) p ≡ client_in b p
    client_renewed = go (eqb (get_or b (kept_at p) 0) (suc i)) (kept_right (rules_at t i) rs b p)
      where
        go : (x : Bool) (v : ℕ) → client_in (cond x (set b (kept_at p + 1) v) b) p ≡ client_in b p
        go true v =
            let front : Run = record { first = at_place p; count = 185 } in
            client_by_front (set b (kept_at p + 1) v) p 185 (omega arith)
            ∙ ap (λ (r : List ℕ). client_in r 0) (part_set_before front b (kept_at p + 1) v (omega arith))
            ∙ sym (client_by_front b p 185 (omega arith))
        go false v = refl
