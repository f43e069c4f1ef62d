-- What is entered and what is made free, with the changed bit.
use Rattle.std.specs.Prelude.{◌≡◌, false, List, ℕ, ◌+◌, ◌*◌, ◌^◌, get_or}
use Rattle.std.proofs.Common.{sym, ap, ◌∙◌}
use Rattle.std.proofs.lemmas.List.Edits.{sets}
use Rattle.spec_calc.specs.declared.Reading.{Reading}
use Rattle.spec_rule.specs.declared.Decision.{Decision}
use Rattle.spec_rule.specs.Kept.{bit}
use Rattle.spec_table.specs.Check.{is_table}
use Rattle.spec_register.specs.Register.{Client}
use Rattle.spec_register.specs.Right.{differ}
use Rattle.spec_rule.specs.Number.{decision_from}
use Rattle.spec_places.specs.Storage.{at_place, kept_at, client_bytes, nothing_kept, right_in}
use Rattle.spec_places.specs.Writing.{kept, entered, freed}
use Rattle.spec_places.specs.Calls.{differing_in}
use Rattle.spec_places.proofs.laws.Fits.{Fits}
use Rattle.spec_places.proofs.laws.Frame.{entered_local, freed_local}
use Rattle.spec_places.proofs.laws.Own.{right_entered, right_freed}
use Rattle.spec_places.proofs.laws.Records.{right_read}
use Rattle.spec_places.proofs.laws.Changed.{changed_by}
use Rattle.reg_bytes.specs.Placed.{Placed}
use Rattle.reg_enter.specs.Entered.{Left, Enters}

pub no_table_kept : (t : List ℕ) (rs : ℕ → List Reading) (k : Client) → is_table t ≡ false → nothing_kept ≡ kept t rs k
no_table_kept t rs k e = rw e

module _ (b : List ℕ) (p : ℕ) (h : Placed b p) where
  -- the bit by the codes that code reads and writes
  bit_read : (d : Decision) {n r : ℕ} → n ≡ get_or b (kept_at p + 1) 0 → r ≡ bit (differ (decision_from n) d) * 2 ^ p → r ≡ bit (differ (right_in b p) d) * 2 ^ p
  bit_read d e f = f ∙ ap (λ (x : Decision). bit (differ x d) * 2 ^ p) (ap decision_from e ∙ sym (right_read b p h.room h.inside))

  pub enters :
      (k : Client) (ks : List ℕ) {c d : List ℕ} {n r : ℕ} → n ≡ get_or b (kept_at p + 1) 0 → c ≡ sets b (at_place p) (client_bytes k)
      → d ≡ sets c (kept_at p) ks → r ≡ bit (differ (decision_from n) (decision_from (get_or ks 1 0))) * 2 ^ p → Enters b p k ks d r
  enters k ks e f g i =
      record { bytes = g ∙ ap (λ (x : List ℕ). sets x (kept_at p) ks) f; changed = bit_read (decision_from (get_or ks 1 0)) e i }

  pub entered_by :
      (t : List ℕ) (rs : ℕ → List Reading) {k : Client} {ks c : List ℕ} {r : ℕ} → Fits k → ks ≡ kept t rs k → Enters b p k ks c r
      → Left b (entered t rs b p k) c r
  entered_by t rs {k} {ks} {c} {r} f e w =
      let same : c ≡ entered t rs b p k = w.bytes ∙ ap (sets (sets b (at_place p) (client_bytes k)) (kept_at p)) e in
      record {
        bytes = same;
        changed =
            w.changed
            ∙ ap
            (λ (x : Decision). bit (differ (right_in b p) x) * 2 ^ p)
            (ap (λ (l : List ℕ). decision_from (get_or l 1 0)) e ∙ sym (right_entered b p h.room h.inside t rs k))
            ∙ sym (changed_by (entered_local t rs k f) b p h.inside)
            ∙ ap (differing_in b) (sym same);
      }

  pub freed_by :
      {c : List ℕ} {n r : ℕ} → n ≡ get_or b (kept_at p + 1) 0 → c ≡ freed b p → r ≡ bit (differ (decision_from n) (decision_from 0)) * 2 ^ p
      → Left b (freed b p) c r
  freed_by {c} {n} {r} e f g =
      record {
        bytes = f;
        changed =
            bit_read (decision_from 0) e g
            ∙ ap (λ (x : Decision). bit (differ (right_in b p) x) * 2 ^ p) (sym (right_freed b p h.room h.inside))
            ∙ sym (changed_by freed_local b p h.inside)
            ∙ ap (differing_in b) (sym f);
      }
