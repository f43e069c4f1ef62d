-- What a call writes lies in one place's record: the others stand as they were.
use Rattle.std.specs.Prelude.{◌≡◌, refl, ◌≢◌, Bool, true, false, cond, List, [], ◌∷◌, ℕ, suc, ◌+◌, ◌≤◌, eqb, leb, length, get_or, set}
use Rattle.std.proofs.Common.{sym, ap, ap₂, ◌∙◌, add-zero, arith, length-set, leb-true, leb-false}
use Rattle.std.proofs.Math.Option.{Option, none, some}
use Rattle.std.proofs.lemmas.List.Edits.{sets}
use Rattle.std.proofs.Math.Seq.{length-sets}
use Rattle.spec_lists.proofs.laws.Sets.{part_sets, part_sets_before, part_sets_behind}
use Rattle.spec_calc.specs.declared.Reading.{Reading}
use Rattle.spec_rule.specs.Kept.{kept_decision, outcome_bytes}
use Rattle.spec_rule.specs.Number.{decision_number}
use Rattle.spec_table.specs.Check.{is_table}
use Rattle.spec_register.specs.Register.{Client, never_heard}
use Rattle.spec_places.specs.Storage.{place_bytes, at_place, kept_at, client_bytes, nothing_kept, client_in}
use Rattle.spec_places.specs.Writing.{rules_at, kept, entered, freed, kept_right, renewed, settled_client, settled}
use Rattle.spec_places.proofs.laws.Fits.{Fits, client_length, kept_length, rules_length}
use Rattle.spec_places.proofs.laws.Records.{record_run, record_at, client_by_record, kept_by_record, kept_part_by_record}

-- ---- stores in a place's record

pub sets_other :
    (vs b : List ℕ) (p q at : ℕ) → q ≢ p → at_place p ≤ at → at + length vs ≤ at_place p + place_bytes → record_at q (sets b at vs) ≡ record_at q b
sets_other vs b p q at n l h = go (leb p q) refl
  where
    go : (t : Bool) → leb p q ≡ t → record_at q (sets b at vs) ≡ record_at q b
    go true e = let z = leb-true p q e in part_sets_behind vs (record_run q) b at (omega arith)
    go false e = let z = leb-false p q e in part_sets_before vs (record_run q) b at (omega arith)

pub sets_own : (vs b : List ℕ) (p i : ℕ) → i + length vs ≤ place_bytes → record_at p (sets b (at_place p + i) vs) ≡ sets (record_at p b) i vs
sets_own vs b p i h = part_sets vs (record_run p) b i h

sets_first : (vs b : List ℕ) (p : ℕ) → length vs ≤ place_bytes → record_at p (sets b (at_place p) vs) ≡ sets (record_at p b) 0 vs
sets_first vs b p h = ap (λ (k : ℕ). record_at p (sets b k vs)) (sym (add-zero (at_place p))) ∙ sets_own vs b p 0 (omega arith)

-- ---- what writes one place's record only, by what stands in it

pub record Local (f : List ℕ → ℕ → List ℕ) : Type 0 where
  pub same_length : (b : List ℕ) (p : ℕ) → length (f b p) ≡ length b
  pub other : (b : List ℕ) (p q : ℕ) → q ≢ p → record_at q (f b p) ≡ record_at q b
  pub own : (b : List ℕ) (p : ℕ) → record_at p (f b p) ≡ f (record_at p b) 0

-- a client's bytes, or that there is none, then what is kept
twice_local :
    (vs ws : List ℕ) → length vs ≤ 185 → length ws ≤ 258 → Local (λ b p. sets (sets b (at_place p) vs) (kept_at p) ws)
twice_local vs ws h l =
    record {
      same_length = λ b p. length-sets (sets b (at_place p) vs) (kept_at p) ws ∙ length-sets b (at_place p) vs;
      other = λ b p q n.
          sets_other ws (sets b (at_place p) vs) p q (kept_at p) n (omega arith) (omega arith)
          ∙ sets_other vs b p q (at_place p) n (omega arith) (omega arith);
      own = λ b p. sets_own ws (sets b (at_place p) vs) p 185 (omega arith) ∙ ap (λ (r : List ℕ). sets r 185 ws) (sets_first vs b p (omega arith));
    }

pub entered_local : (t : List ℕ) (rs : ℕ → List Reading) (c : Client) → Fits c → Local (λ b p. entered t rs b p c)
entered_local t rs c f = twice_local (client_bytes c) (kept t rs c) (client_length c f) (kept_length t rs c)

pub freed_local : Local freed
freed_local = twice_local (0 ∷ []) nothing_kept (omega arith) (omega arith)

pub settled_local : (t : List ℕ) → Local (settled t)
settled_local t =
    record {
      same_length = λ b p. long b p (client_in b p);
      other = λ b p q n. others b p q n (client_in b p);
      own = λ b p. mine b p (client_in b p) ∙ ap (settled_client t (record_at p b) 0) (client_by_record b p);
    }
  where
    long : (b : List ℕ) (p : ℕ) (o : Option Client) → length (settled_client t b p o) ≡ length b
    long b p none = refl
    long b p (some c) = length-sets b (kept_at p) (kept t (λ i. never_heard) c)

    others : (b : List ℕ) (p q : ℕ) → q ≢ p → (o : Option Client) → record_at q (settled_client t b p o) ≡ record_at q b
    others b p q n none = refl
    others b p q n (some c) =
        let l = kept_length t (λ i. never_heard) c in
        sets_other (kept t (λ i. never_heard) c) b p q (kept_at p) n (omega arith) (omega arith)

    mine : (b : List ℕ) (p : ℕ) (o : Option Client) → record_at p (settled_client t b p o) ≡ settled_client t (record_at p b) 0 o
    mine b p none = refl
    mine b p (some c) = let l = kept_length t (λ i. never_heard) c in sets_own (kept t (λ i. never_heard) c) b p 185 (omega arith)

pub renewed_local : (t : List ℕ) (i : ℕ) (rs : List Reading) → is_table t ≡ true → Local (renewed t i rs)
renewed_local t i rs h =
    record {
      same_length = λ b p. long b p (kept_right (rules_at t i) rs b p) (eqb (get_or b (kept_at p) 0) (suc i));
      other = λ b p q n. others b p q n (kept_right (rules_at t i) rs b p) (eqb (get_or b (kept_at p) 0) (suc i));
      own = λ b p.
          mine b p (kept_right (rules_at t i) rs b p) (eqb (get_or b (kept_at p) 0) (suc i))
          ∙ ap₂ (λ (k v : ℕ). cond (eqb k (suc i)) (set (record_at p b) 186 v) (record_at p b)) (number b p) (code b p);
    }
  where
    long : (b : List ℕ) (p v : ℕ) (x : Bool) → length (cond x (set b (kept_at p + 1) v) b) ≡ length b
    long b p v true = length-set b (kept_at p + 1) v
    long b p v false = refl

    others : (b : List ℕ) (p q : ℕ) → q ≢ p → (v : ℕ) (x : Bool) → record_at q (cond x (set b (kept_at p + 1) v) b) ≡ record_at q b
    others b p q n v true = sets_other (v ∷ []) b p q (kept_at p + 1) n (omega arith) (omega arith)
    others b p q n v false = refl

    mine : (b : List ℕ) (p v : ℕ) (x : Bool) → record_at p (cond x (set b (kept_at p + 1) v) b) ≡ cond x (set (record_at p b) 186 v) (record_at p b)
    mine b p v true =
        let z : kept_at p + 1 ≡ at_place p + 186 = omega arith in
        ap (λ (k : ℕ). record_at p (set b k v)) z ∙ sets_own (v ∷ []) b p 186 (omega arith)
    mine b p v false = refl

    number : (b : List ℕ) (p : ℕ) → get_or b (kept_at p) 0 ≡ get_or (record_at p b) 185 0
    number b p = ap (λ (k : ℕ). get_or b k 0) (sym (add-zero (kept_at p))) ∙ kept_by_record b p 0 (omega arith)

    code : (b : List ℕ) (p : ℕ) → kept_right (rules_at t i) rs b p ≡ kept_right (rules_at t i) rs (record_at p b) 0
    code b p =
        ap
        (λ (ks : List ℕ). decision_number (kept_decision ks (outcome_bytes rs (rules_at t i)) (rules_at t i)))
        (kept_part_by_record b p 2 (length (rules_at t i)) (omega (arith, rules_length t i h)))
