-- A place stays settled: the others under a call that writes one; one whose right is renewed for a reading; one that is settled over another table.
use Rattle.std.specs.Prelude.{◌≡◌, refl, List, ◌∷◌, map, ◌≢◌, ℕ, suc, ◌+◌, ◌≤◌, ◌<◌, length, get_or, set}
use Rattle.std.proofs.Common.{sym, ap, subst, ◌∙◌, arith, take_all}
use Rattle.std.proofs.Math.Option.{Option, none, some}
use Rattle.std.proofs.Math.Decide.{ℕ_discrete}
use Rattle.std.proofs.lemmas.List.{length-map}
use Rattle.spec_lists.specs.Runs.{part}
use Rattle.spec_calc.specs.declared.Reading.{Reading}
use Rattle.spec_rule.specs.Rule.{stands}
use Rattle.spec_rule.specs.Decision.{decision_by}
use Rattle.spec_rule.specs.Kept.{bit, kept_decision, outcome_bytes}
use Rattle.spec_rule.specs.Number.{decision_number}
use Rattle.spec_rule.proofs.laws.Kept.{kept_is}
use Rattle.spec_file.specs.Limit.{access_groups, most}
use Rattle.spec_table.proofs.laws.Fields.{part_part}
use Rattle.spec_register.specs.Register.{Client, most_clients, never_heard}
use Rattle.spec_places.specs.Storage.{places_bytes, kept_at, client_in}
use Rattle.spec_places.specs.Writing.{rules_at, asked, kept_by, kept, kept_right, renewed, settled}
use Rattle.spec_places.proofs.laws.Fits.{kept_length}
use Rattle.spec_places.proofs.laws.Numbers.{Keeps, nothing, of_group, keeps, kept_agrees}
use Rattle.spec_places.proofs.laws.Own.{client_settled, kept_settled, settled_free, client_renewed, kept_renewed, renewed_other}
use Rattle.spec_places.proofs.laws.Records.{record_at, kept_run, client_same, kept_same}
use Rattle.spec_places.proofs.laws.Settled.{kept_for, PlaceSettled, place_of, place_free, place_taken, number_kept}

kept_for_most : (t : List ℕ) (rs : ℕ → List Reading) (o : Option Client) → length (kept_for t rs o) ≤ 258
kept_for_most t rs none = omega arith
kept_for_most t rs (some c) = kept_length t rs c

-- ---- its record is the same

pub same_record :
    (t : List ℕ) (rs : ℕ → List Reading) (b c : List ℕ) (q : ℕ) → record_at q b ≡ record_at q c → PlaceSettled t rs c q → PlaceSettled t rs b q
same_record t rs b c q e h =
    let ks = kept_for t rs (client_in c q) in
    place_of t rs b q (client_in c q) (client_same b c q e) h.fits (kept_same b c q e (length ks) (kept_for_most t rs (client_in c q)) ∙ h.keeps)

-- ---- what it is to keep is the same

same_kept : (b ks ls : List ℕ) (q : ℕ) → ks ≡ ls → part (kept_run q (length ks)) b ≡ ks → part (kept_run q (length ls)) b ≡ ls
same_kept b ks ls q e h = subst (λ (l : List ℕ). part (kept_run q (length l)) b ≡ l) e h

-- what a settled place keeps of its client, where the client is known
kept_of : (t : List ℕ) (rs : ℕ → List Reading) (b : List ℕ) (q : ℕ) (o : Option Client) → client_in b q ≡ o → PlaceSettled t rs b q
    → (part (kept_run q (length (kept_for t rs o))) b ≡ kept_for t rs o) × (get_or b (kept_at q) 0 ≡ get_or (kept_for t rs o) 0 0)
kept_of t rs b q o e h = (
  same_kept b (kept_for t rs (client_in b q)) (kept_for t rs o) q (ap (kept_for t rs) e) h.keeps,
  number_kept t rs b q h ∙ ap (λ (x : Option Client). get_or (kept_for t rs x) 0 0) e,
)

-- ---- settled over another table, no reading heard

module _ (t u : List ℕ) (rs qs : ℕ → List Reading) (heard_none : (i : ℕ) → i < most access_groups → qs i ≡ never_heard) where
  pub stays_settled : (b : List ℕ) (q : ℕ) → places_bytes ≤ length b → q < most_clients → PlaceSettled t rs b q → PlaceSettled u qs (settled u b q) q
  stays_settled b q h l s = by (client_in b q) refl
    where
      by : (o : Option Client) → client_in b q ≡ o → PlaceSettled u qs (settled u b q) q
      by none e =
          subst
          (λ (x : List ℕ). PlaceSettled u qs x q)
          (sym (settled_free u b q e))
          (place_free u qs b q e (kept_of t rs b q none e s).0)
      by (some c) e =
          place_taken u qs (settled u b q) q c (client_settled u b q ∙ e) (s.fits c e)
          (same_kept
          (settled u b q)
          (kept u (λ i. never_heard) c)
          (kept u qs c)
          q
          (kept_agrees u c (λ i. never_heard) qs (λ i k. sym (heard_none i k)))
          (kept_settled b q h l u c e))

-- ---- renewed: the readings of one group are others

-- the kept bits of a group's rules give the right by other readings
module _ (t : List ℕ) (i : ℕ) (rs qs : ℕ → List Reading) (c : Client) (b : List ℕ) (q : ℕ) where
  abbrev bits_of : List ℕ
  bits_of = map (λ r. bit (stands (asked c (rs i)) r)) (rules_at t i)

  bits_kept :
      part (kept_run q (length (kept_by t rs c (some i)))) b ≡ kept_by t rs c (some i)
      → part (record { first = kept_at q + 2; count = length (rules_at t i) }) b ≡ bits_of
  bits_kept h =
      let n = length (rules_at t i) in
      let m = length (kept_by t rs c (some i)) in
      let size = length-map (rules_at t i) (λ r. bit (stands (asked c (rs i)) r)) in
      sym (part_part (record { first = 2; count = n }) (kept_run q m) b (omega (arith, size)))
      ∙ ap (part (record { first = 2; count = n })) h
      ∙ take_all n bits_of (omega (arith, size))

  right_renewed :
      part (kept_run q (length (kept_by t rs c (some i)))) b ≡ kept_by t rs c (some i)
      → kept_right (rules_at t i) (qs i) b q ≡ decision_number (decision_by (asked c (qs i)) (rules_at t i))
  right_renewed h =
      ap
      (λ (ks : List ℕ). decision_number (kept_decision ks (outcome_bytes (qs i) (rules_at t i)) (rules_at t i)))
      (bits_kept h)
      ∙ ap decision_number (kept_is (asked c (qs i)) (rules_at t i))

module _ (t : List ℕ) (i : ℕ) (rs qs : ℕ → List Reading) (others : (k : ℕ) → k ≢ i → qs k ≡ rs k) (b : List ℕ) (q : ℕ) (s : PlaceSettled t rs b q) where
  abbrev after : List ℕ
  after = renewed t i (qs i) b q

  -- a place that the group does not answer for
  other_group : (c : Client) → client_in b q ≡ some c → get_or b (kept_at q) 0 ≢ suc i → kept t rs c ≡ kept t qs c → PlaceSettled t qs after q
  other_group c e n k =
      subst
      (λ (x : List ℕ). PlaceSettled t qs x q)
      (sym (renewed_other t b q i (qs i) n))
      (place_taken t qs b q c e (s.fits c e) (same_kept b (kept t rs c) (kept t qs c) q k (kept_of t rs b q (some c) e s).0))

  this_group :
      (c : Client) → client_in b q ≡ some c → kept t rs c ≡ kept_by t rs c (some i) → kept t qs c ≡ kept_by t qs c (some i) → PlaceSettled t qs after q
  this_group c e k m =
      let h = kept_of t rs b q (some c) e s in
      let stood = same_kept b (kept t rs c) (kept_by t rs c (some i)) q k h.0 in
      let number : get_or b (kept_at q) 0 ≡ suc i = h.1 ∙ ap (λ (l : List ℕ). get_or l 0 0) k in
      let v = kept_right (rules_at t i) (qs i) b q in
      place_taken t qs after q c (client_renewed t b q i (qs i) ∙ e) (s.fits c e)
      (same_kept
      after
      (kept_by t qs c (some i))
      (kept t qs c)
      q
      (sym m)
      (kept_renewed t b q i (qs i) (length (kept_by t rs c (some i))) (omega arith) number
      ∙ ap (λ (l : List ℕ). set l 1 v) stood
      ∙ ap (λ (n : ℕ). suc i ∷ n ∷ map (λ r. bit (stands (asked c (qs i)) r)) (rules_at t i)) (right_renewed t i rs qs c b q stood)))

  pub stays_renewed : PlaceSettled t qs after q
  stays_renewed = by (client_in b q) refl
    where
      of_client : (c : Client) → client_in b q ≡ some c → Keeps t c → PlaceSettled t qs after q
      of_client c e (nothing k) =
          let n = (kept_of t rs b q (some c) e s).1 ∙ ap (λ (l : List ℕ). get_or l 0 0) (k rs) in
          other_group c e (λ z. omega arith) (k rs ∙ sym (k qs))
      of_client c e (of_group j l h k) = on (ℕ_discrete j i)
        where
          n : get_or b (kept_at q) 0 ≡ suc j
          n = (kept_of t rs b q (some c) e s).1 ∙ ap (λ (l : List ℕ). get_or l 0 0) (k rs)

          on : Dec (j ≡ i) → PlaceSettled t qs after q
          on (yes z) =
              this_group c e (k rs ∙ ap (λ (x : ℕ). kept_by t rs c (some x)) z) (k qs ∙ ap (λ (x : ℕ). kept_by t qs c (some x)) z)
          on (no z) =
              other_group c e
              (λ x. z (omega (arith, n)))
              (k rs
              ∙ ap
              (λ (x : List Reading). suc j ∷ decision_number (decision_by (asked c x) (rules_at t j)) ∷ map (λ r. bit (stands (asked c x) r)) (rules_at t j))
              (sym (others j z))
              ∙ sym (k qs))

      by : (o : Option Client) → client_in b q ≡ o → PlaceSettled t qs after q
      by none e =
          let h = kept_of t rs b q none e s in
          let n = h.1 in
          subst
          (λ (x : List ℕ). PlaceSettled t qs x q)
          (sym (renewed_other t b q i (qs i) (λ z. omega arith)))
          (place_free t qs b q e h.0)
      by (some c) e = of_client c e (keeps t c)
