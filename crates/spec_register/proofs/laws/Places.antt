-- Who stands where: adding takes the lowest free place, a removed place is free, and a client stays until changed or removed.
use Rattle.std.specs.Prelude.{◌≡◌, refl, Bool, true, false, List, [], ◌∷◌, ◌⊎◌, ℕ, ◌<◌, leb, length}
use Rattle.std.proofs.Common.{sym, ap, ◌∙◌, inl, inr, arith, get_or-set_same, get_or-set_other, leb-true, leb-false}
use Rattle.std.proofs.Math.Option.{Option, none, some}
use Rattle.std.proofs.Math.ListN.{get_or-eq_default}
use Rattle.spec_calc.specs.declared.Reading.{Reading}
use Rattle.spec_decision.specs.Groups.{Numbered, group_named}
use Rattle.spec_load.specs.declared.Loaded.{Loaded}
use Rattle.spec_load.specs.declared.Loaded.TheVariants as loaded
use Rattle.spec_load.specs.Load.{load}
use Rattle.spec_register.specs.declared.Refused.{Refused}
use Rattle.spec_register.specs.declared.Added.TheVariants as added
use Rattle.spec_register.specs.Register.{Client, Register, most_clients, client_at, with_client}
use Rattle.spec_register.specs.Refusal.{add_refusal, change_refusal, remove_refusal, set_refusal, lowest_free}
use Rattle.spec_register.specs.Calls.{Gateway, Call, add, change, remove, set_reading, load_again, unless, reading_set, after_load, after, after_calls}
use Rattle.spec_register.specs.Calls.{client_added, answer}
use Rattle.spec_register.specs.Sentences.{Sized, NotRefused, EachDone, Free, LowestFree, OnlyPlace, SparesClient, AllTaken, changed_in}
use Rattle.spec_register.proofs.laws.Lowest.{lowest_is_free, lower_is_taken, none_some}
use Rattle.spec_register.proofs.laws.Refused.{add_done, change_done, remove_done, add_refused, change_refused, remove_refused}

-- ---- one place of a register

module _ (r : Register) where
  -- a client stands among the places only
  pub taken_within : (p : ℕ) → (Free r p → ⊥) → p < length r.clients
  taken_within p n = by (leb (length r.clients) p) refl
    where
      by : (b : Bool) → leb (length r.clients) p ≡ b → p < length r.clients
      by true e = absurd (n (get_or-eq_default r.clients none (leb-true (length r.clients) p e)))
      by false e = leb-false (length r.clients) p e

  only_put : (p : ℕ) (o : Option Client) → p < length r.clients → OnlyPlace p o r (with_client r p o)
  only_put p o h =
      record {
        here = get_or-set_same r.clients p o none h;
        others = λ q n. get_or-set_other r.clients p q o none n;
        readings = refl;
      }

  -- a call that is not refused does so
  done : {o : Option Refused} (p : ℕ) (k : Option Client) → o ≡ none → p < length r.clients → OnlyPlace p k r (unless o (with_client r p k) r)
  done p k e h = rw e (only_put p k h)

-- a cause that does not apply
pub passed : {n : ℕ} {A R : Type 0} → (A × (none ≡ some n)) ⊎ ((A → ⊥) × R) → (A → ⊥) × R
passed (inl a) = none_some refl a.1
passed (inr a) = a

-- ---- add, change, remove

module _ (g : Gateway) where
  has_room : (c : Client) → Sized g.register → NotRefused g (add c) → lowest_free g.register.clients < most_clients
  has_room c s e = by (leb most_clients (lowest_free g.register.clients)) refl
    where
      not_all : AllTaken g.register → ⊥
      not_all = (passed (passed (passed ((add_refused g none s c).0 e)).1).1).0

      by : (b : Bool) → leb most_clients (lowest_free g.register.clients) ≡ b → lowest_free g.register.clients < most_clients
      by true h =
          absurd (not_all (λ q k. lower_is_taken g.register.clients q (omega (arith, leb-true most_clients (lowest_free g.register.clients) h))))
      by false h = leb-false most_clients (lowest_free g.register.clients) h

  -- "Adding takes the lowest free place"
  pub added_lowest :
      (c : Client) → Sized g.register → NotRefused g (add c)
      → (p : ℕ)
      × (answer g (add c) ≡ client_added (added.At p (changed_in (answer g (add c)))))
      × LowestFree g.register p
      × OnlyPlace p (some c) g.register (after g (add c)).register
  added_lowest c s e =
      let l = lowest_free g.register.clients in
      let room = has_room c s e in
      let not_refused = (add_done g c).0 e in
      let at : answer g (add c) ≡ client_added (added.At l (changed_in (answer g (add c)))) = rw not_refused in (
        l,
        at,
        record { place = room; free = lowest_is_free g.register.clients; lower = lower_is_taken g.register.clients },
        done g.register l (some c) not_refused (omega (arith, room, s.places)),
      )

  pub changed_only : (p : ℕ) (c : Client) → NotRefused g (change p c) → OnlyPlace p (some c) g.register (after g (change p c)).register
  changed_only p c e =
      done g.register p (some c) ((change_done g p c).0 e) (taken_within g.register p (passed ((change_refused g none p c).0 e)).0)

  -- "a removed place is free"
  pub removed_only : (p : ℕ) → NotRefused g (remove p) → OnlyPlace p none g.register (after g (remove p)).register
  removed_only p e = done g.register p none ((remove_done g p).0 e) (taken_within g.register p (passed ((remove_refused g none p).0 e)).0)

-- ---- "a client stays as last given until changed or removed, whatever other calls are made"

module _ (g : Gateway) (p : ℕ) (c : Client) (given : client_at g.register p ≡ some c) where
  elsewhere :
      (o : Option Refused) (q : ℕ) (k : Option Client) → (o ≡ none → q ≡ p → ⊥)
      → client_at (unless o (with_client g.register q k) g.register) p ≡ some c
  elsewhere none q k n = get_or-set_other g.register.clients q p k none (λ e. n refl (sym e)) ∙ given
  elsewhere (some x) q k n = given

  not_set :
      (o : Option Refused) (h : Option Numbered) (letter : ℕ) (x : Reading)
      → client_at (unless o (reading_set g.register h letter x) g.register) p ≡ some c
  not_set none none letter x = given
  not_set none (some h) letter x = given
  not_set (some y) h letter x = given

  not_loaded : (a : Loaded) → client_at (after_load a g.register) p ≡ some c
  not_loaded (loaded.Accepted n w) = given
  not_loaded (loaded.Refused x q) = given

  call_spares : (d : Call) → (NotRefused g d → SparesClient p g d) → client_at (after g d).register p ≡ some c
  call_spares (add k) n =
      elsewhere (add_refusal g.register k) (lowest_free g.register.clients) (some k)
      (λ f e. none_some (lowest_is_free g.register.clients) (ap (client_at g.register) e ∙ given))
  call_spares (change q k) n = elsewhere (change_refusal g.register q k) q (some k) (λ f. n ((change_done g q k).1 f))
  call_spares (remove q) n = elsewhere (remove_refusal g.register q) q none (λ f. n ((remove_done g q).1 f))
  call_spares (set_reading m letter x) n = not_set (set_refusal g.table m letter) (group_named g.table m) letter x
  call_spares (load_again s) n = not_loaded (load g.table s).answer

pub client_stays :
    (g : Gateway) (p : ℕ) (c : Client) → client_at g.register p ≡ some c
    → (cs : List Call) → EachDone (SparesClient p) g cs → client_at (after_calls g cs).register p ≡ some c
client_stays g p c h [] n = h
client_stays g p c h (d ∷ cs) n = client_stays (after g d) p c (call_spares g p c h d n.0) cs n.1
