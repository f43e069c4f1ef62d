-- Places settled, as the code does it.
use Rattle.std.specs.Prelude.{◌≡◌, Bool, true, false, cond, List, [], ℕ, suc, ◌+◌, ◌-◌, ◌*◌, ◌^◌, ◌≤◌, ◌<◌, Float, length, get_or}
use Rattle.std.proofs.Math.Path.{refl}
use Rattle.std.proofs.Common.{sym, ap, ap₂, subst, ◌∙◌, arith}
use Rattle.std.proofs.Math.Option.{Option, none, some}
use Rattle.std.proofs.lemmas.List.Edits.{sets}
use Rattle.std.proofs.Math.Seq.{length-sets}
use Rattle.spec_lists.proofs.laws.Sets.{get_d_sets}
use Rattle.spec_rule.specs.declared.Decision.{Decision}
use Rattle.spec_rule.specs.Kept.{bit, says_stands}
use Rattle.spec_register.specs.Register.{Client, most_clients, never_heard}
use Rattle.spec_register.specs.Right.{differ}
use Rattle.spec_rule.specs.Number.{decision_from}
use Rattle.spec_places.specs.Storage.{at_place, kept_at, client_from, readings_in, right_in}
use Rattle.spec_places.specs.Writing.{kept, settled_client, settled}
use Rattle.spec_places.proofs.laws.Fits.{kept_length, kept_least}
use Rattle.spec_places.proofs.laws.Records.{right_read}
use Rattle.spec_places.proofs.laws.Frame.{settled_local}
use Rattle.spec_places.proofs.laws.Own.{settled_free}
use Rattle.spec_places.proofs.laws.Changed.{differ_same, bits_fit, Visited, visited_none, visited_more, visited_all}
use Rattle.reg_bytes.specs.Placed.{Placed}
use Rattle.reg_kept.specs.declared.Kept.{Kept}
use Rattle.reg_kept.specs.Kept.{Keeps, kept_bytes, kept_of}
use Rattle.reg_kept.specs.laws.Kept.{unheard}
use Rattle.reg_settle.specs.Settle.{SettlesPlace, AllSettled, kept_here}

module _ (t : List ℕ) (b : List ℕ) (p : ℕ) where
  -- the client as it stands in the place, and no states
  pub keeps_here : {k : Kept} {c : Client} (values : List Float) → c ≡ client_from b (at_place p) → Keeps (kept_of t [] values c) k → Keeps (kept_here t b p) k
  keeps_here {k} values e q =
      subst (λ (d : List ℕ). Keeps d k) (ap (kept t (readings_in [] values)) e ∙ unheard t values (client_from b (at_place p))) q

  abbrev taken : Bool
  taken = says_stands (get_or b (at_place p) 0)

  abbrev client_if : Bool → Option Client
  client_if x = cond x (some (client_from b (at_place p))) none

  pub place_free : taken ≡ false → SettlesPlace t p b b 0
  place_free e =
      record {
        left = sym (settled_free t b p (ap client_if e));
        changed = ap bit (sym (differ_same (right_in b p) (right_in b p) refl));
      }

  pub place_settled :
      {k : Kept} {c : List ℕ} {code m : ℕ} → Placed b p → taken ≡ true → Keeps (kept_here t b p) k → c ≡ sets b (kept_at p) (kept_bytes k)
      → code ≡ get_or b (kept_at p + 1) 0 → m ≡ bit (differ (decision_from code) (decision_from k.right))
      → SettlesPlace t p b c m
  place_settled {k} {c} {code} {m} h n q w o y =
      record {
        left = w ∙ ap (sets b (kept_at p)) q.is ∙ sym (ap (settled_client t b p) (ap client_if n));
        changed =
            y
            ∙ ap₂ (λ (d f : Decision). bit (differ d f))
            (ap decision_from o ∙ sym (right_read b p h.room h.inside))
            (sym after);
      }
    where
      least : 2 ≤ length (kept_here t b p)
      least = kept_least t (λ i. never_heard) (client_from b (at_place p))

      most : length (kept_here t b p) ≤ 258
      most = kept_length t (λ i. never_heard) (client_from b (at_place p))

      count : length (kept_bytes k) ≡ length (kept_here t b p)
      count = ap length q.is

      same : length c ≡ length b
      same = ap length w ∙ length-sets b (kept_at p) (kept_bytes k)

      after : right_in c p ≡ decision_from k.right
      after =
          right_read c p (omega (arith, h.room, same)) h.inside
          ∙ ap (λ (x : List ℕ). decision_from (get_or x (kept_at p + 1) 0)) w
          ∙ ap decision_from (get_d_sets (kept_bytes k) b (kept_at p) 1 0 (omega (arith, h.room, h.inside, count, most)) (omega (arith, count, least)))

-- ---- the loop: the places from p on are done

-- not to be unfolded at each step: each place is in it
unfoldable pub Visits : (t b₀ : List ℕ) (p : ℕ) (b : List ℕ) (m : ℕ) → Type 0
Visits t b₀ p b m = Visited (settled t) b₀ p b m

pub record Settling (t : List ℕ) (b₀ : List ℕ) (p : ℕ) (b : List ℕ) (m : ℕ) : Type 0 where
  pub inside : p ≤ most_clients
  pub visited : Visits t b₀ p b m
  pub same_length : length b ≡ length b₀

module _ (t : List ℕ) (b₀ : List ℕ) where
  pub settling_none : Settling t b₀ most_clients b₀ 0
  unfolding Visits
  settling_none = record { inside = omega arith; visited = visited_none (settled t) b₀; same_length = refl }

  module _ {b c : List ℕ} {p q m x : ℕ} (e : q ≡ suc p) (v : Settling t b₀ q b m) (w : SettlesPlace t p b c x) where
    low : suc p ≤ most_clients
    low = rw e at v.inside

    more : Visited (settled t) b₀ p c (x + 2 * m)
    unfolding Visits
    more = visited_more (settled_local t) e low w.left (ap (λ (n : ℕ). n + 2 * m) w.changed) v.visited

    pub settling_more : Settling t b₀ p c (x + 2 * m)
    unfolding Visits
    settling_more = record { inside = omega (arith, low); visited = more; same_length = more.same_length }

    pub settling_fits : x + 2 * m < 2 ^ 64
    settling_fits = bits_fit (x + 2 * m) p more.small

  pub settling_all : {b : List ℕ} {p m : ℕ} → p ≡ 0 → Settling t b₀ p b m → AllSettled t b₀ b m
  unfolding Visits
  settling_all e v = let w = visited_all (settled_local t) (rw e at v.visited) in record { left = w.0; changed = w.1 }
