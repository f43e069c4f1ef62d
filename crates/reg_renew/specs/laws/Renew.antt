-- A place renewed by what is kept there, as the code does it.
use Rattle.std.specs.Prelude.{◌≡◌, refl, ◌≢◌, true, List, ℕ, suc, ◌+◌, ◌-◌, ◌*◌, ◌^◌, ◌≤◌, ◌<◌, length, take, get_or, set, replicate}
use Rattle.std.proofs.Common.{sym, ap, ap₂, ◌∙◌, le_refl, arith, length-set, get_or-set_same}
use Rattle.std.proofs.lemmas.List.{length-replicate, length-map}
use Rattle.std.proofs.Math.Seq.{length-sets}
use Rattle.spec_lists.specs.Runs.{part}
use Rattle.spec_lists.proofs.laws.Sets.{part_sets_all}
use Rattle.spec_calc.specs.declared.Reading.{Reading}
use Rattle.spec_rule.specs.declared.Decision.{Decision}
use Rattle.spec_rule.specs.Kept.{bit, outcome_byte, outcome_bytes, kept_decision}
use Rattle.spec_rule.specs.Rule.{outcome}
use Rattle.spec_rule.specs.Number.{decision_number, decision_from}
use Rattle.spec_rule.proofs.laws.Kept.{outcome_bytes_enough}
use Rattle.spec_file.specs.Limit.{rules, most}
use Rattle.spec_table.specs.Check.{is_table}
use Rattle.spec_register.specs.Register.{most_clients}
use Rattle.spec_register.specs.Right.{differ}
use Rattle.spec_places.specs.Storage.{kept_at, right_in}
use Rattle.spec_places.specs.Writing.{rules_at, kept_right, renewed}
use Rattle.spec_places.proofs.laws.Fits.{rules_length}
use Rattle.spec_places.proofs.laws.Records.{right_read}
use Rattle.spec_places.proofs.laws.Frame.{renewed_local}
use Rattle.spec_places.proofs.laws.Own.{renewed_other, renewed_here}
use Rattle.spec_places.proofs.laws.Changed.{differ_same, bits_small, bits_fit, Visited, visited_none, visited_more, visited_all}
use Rattle.ask_kept.specs.Kept.{decision_kept}
use Rattle.reg_bytes.specs.Placed.{Placed}
use Rattle.reg_kept.specs.Kept.{outcomes_from}
use Rattle.reg_renew.specs.Renew.{Outcomes, RenewsPlace, RenewsAll}

module _ (t : List ℕ) (i : ℕ) (os : List ℕ) (b : List ℕ) (p : ℕ) where
  -- another group answers
  pub not_renewed : get_or b (kept_at p) 0 ≢ suc i → RenewsPlace t i os p b b 0
  not_renewed n =
      record { left = λ rs h. sym (renewed_other t b p i rs n); changed = ap bit (sym (differ_same (right_in b p) (right_in b p) refl)) }

  by_outcomes : (rs : List Reading) → Outcomes t i os rs → decision_number (decision_kept t i b (kept_at p + 2) os) ≡ kept_right (rules_at t i) rs b p
  by_outcomes rs h =
      let rules = rules_at t i in
      let ks = part (record { first = kept_at p + 2; count = length rules }) b in
      ap decision_number (sym (outcome_bytes_enough (length rules) ks os rules (le_refl (length rules))) ∙ ap (λ (us : List ℕ). kept_decision ks us rules) h)

  pub place_renewed :
      {code at to m : ℕ} → Placed b p → get_or b (kept_at p) 0 ≡ suc i → at ≡ kept_at p + 2 → code ≡ decision_number (decision_kept t i b at os)
      → to ≡ kept_at p + 1 → m ≡ bit (differ (decision_from (get_or b (kept_at p + 1) 0)) (decision_from code))
      → RenewsPlace t i os p b (set b to code) m
  place_renewed {code} {at} {to} {m} h n e x z y =
      record {
        left =
            λ rs k.
            ap₂ (set b) z (x ∙ ap (λ (a : ℕ). decision_number (decision_kept t i b a os)) e ∙ by_outcomes rs k) ∙ sym (renewed_here t b p i rs n);
        changed = y ∙ ap₂ (λ (d f : Decision). bit (differ d f)) (sym (right_read b p h.room h.inside)) (sym after);
      }
    where
      after : right_in (set b to code) p ≡ decision_from code
      after =
          right_read (set b to code) p (simp length-set h.room) h.inside
          ∙ ap (λ (a : ℕ). decision_from (get_or (set b to code) a 0)) (sym z)
          ∙ ap decision_from (get_or-set_same b to code 0 (omega (arith, h.room, h.inside)))

-- ---- the loop: the places from p on are done

pub record Renewing (t : List ℕ) (i : ℕ) (os : List ℕ) (b₀ : List ℕ) (p : ℕ) (b : List ℕ) (m : ℕ) : Type 0 where
  pub inside : p ≤ most_clients
  pub visited : (rs : List Reading) → Outcomes t i os rs → Visited (renewed t i rs) b₀ p b m
  pub same_length : length b ≡ length b₀
  pub small : m < 2 ^ (64 - p)

module _ (t : List ℕ) (i : ℕ) (os : List ℕ) (b₀ : List ℕ) where
  pub renewing_none : Renewing t i os b₀ most_clients b₀ 0
  renewing_none =
      record { inside = omega arith; visited = λ rs k. visited_none (renewed t i rs) b₀; same_length = refl; small = omega arith }

  module _ {b c : List ℕ} {p q m x : ℕ} (e : q ≡ suc p) (v : Renewing t i os b₀ q b m) (w : RenewsPlace t i os p b c x) where
    more : x + 2 * m < 2 ^ (64 - p)
    more = rw w.changed (bits_small (differ (right_in b p) (right_in c p)) p m (omega (arith, v.inside)) (rw e at v.small))

    pub renewing_fits : x + 2 * m < 2 ^ 64
    renewing_fits = bits_fit (x + 2 * m) p more

    pub renewing_more : is_table t ≡ true → length c ≡ length b → Renewing t i os b₀ p c (x + 2 * m)
    renewing_more h l =
        record {
          inside = omega (arith, v.inside);
          visited =
              λ rs k.
              visited_more (renewed_local t i rs h) e (omega (arith, v.inside)) (w.left rs k)
              (ap (λ (n : ℕ). n + 2 * m) w.changed)
              (v.visited rs k);
          same_length = l ∙ v.same_length;
          small = more;
        }

  pub renewing_all : {b : List ℕ} {p m : ℕ} → p ≡ 0 → is_table t ≡ true → Renewing t i os b₀ p b m → RenewsAll t i os b₀ b m
  renewing_all e h v rs k =
      let w = visited_all (renewed_local t i rs h) (rw e at (v.visited rs k)) in record { left = w.0; changed = w.1 }

-- ---- the outcomes that reg_kept works out

module _ (t : List ℕ) (i : ℕ) (rs : List Reading) {os : List ℕ} (e : os ≡ outcomes_from t i rs) where
  abbrev none : List ℕ
  none = replicate (most rules) 0

  none_count : length none ≡ most rules
  none_count = length-replicate {A = ℕ} (most rules) 0

  pub outcomes_room : most rules ≤ length os
  outcomes_room = omega (arith, ap length e, length-sets none 0 (outcome_bytes rs (rules_at t i)), none_count)

  pub outcomes_begin : is_table t ≡ true → Outcomes t i os rs
  outcomes_begin h =
      let vs = outcome_bytes rs (rules_at t i) in
      let n : length vs ≡ length (rules_at t i) = length-map (rules_at t i) (λ r. outcome_byte (outcome rs r.calculation)) in
      ap₂ (λ (k : ℕ) (us : List ℕ). take k us) (sym n) e ∙ part_sets_all vs none 0 (omega (arith, rules_length t i h, none_count))
