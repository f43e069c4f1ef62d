-- Through any calls a register has 64 places, and 64 groups of 21 readings.
use Rattle.std.specs.Prelude.{◌≡◌, refl, List, [], ◌∷◌, ℕ, zero, suc, length, get_or, set, replicate}
use Rattle.std.proofs.Common.{◌∙◌, length-set}
use Rattle.std.proofs.Math.Option.{Option, none, some}
use Rattle.spec_lists.specs.Every.{Every, nil, cons}
use Rattle.spec_lists.proofs.laws.Every.{every_at}
use Rattle.spec_calc.specs.declared.Reading.{Reading}
use Rattle.spec_file.specs.Limit.{most, access_groups}
use Rattle.spec_decision.specs.Groups.{Numbered, group_named}
use Rattle.spec_load.specs.declared.Loaded.{Loaded}
use Rattle.spec_load.specs.declared.Loaded.TheVariants as loaded
use Rattle.spec_load.specs.Load.{load}
use Rattle.spec_register.specs.declared.Refused.{Refused}
use Rattle.spec_register.specs.Register.{Client, Register, most_clients, letters, never_heard, empty, with_client, with_reading, unheard, readings_at}
use Rattle.spec_register.specs.Refusal.{add_refusal, change_refusal, remove_refusal, set_refusal, lowest_free}
use Rattle.spec_register.specs.Calls.{Gateway, Call, add, change, remove, set_reading, load_again, unless, reading_set, after_load, after, after_calls}
use Rattle.spec_register.specs.Sentences.{begun, Sized}

every_replicate : {A : Type 0} {P : A → Type 0} (a : A) → P a → (n : ℕ) → Every P (replicate n a)
every_replicate a h zero = nil
every_replicate a h (suc n) = cons h (every_replicate a h n)

pub at_replicate : {A : Type 0} (n : ℕ) (a : A) (i : ℕ) → get_or (replicate n a) i a ≡ a
at_replicate zero a i = refl
at_replicate (suc n) a zero = refl
at_replicate (suc n) a (suc i) = at_replicate n a i

every_set : {A : Type 0} {P : A → Type 0} {a : A} (i : ℕ) {l : List A} → Every P l → P a → Every P (set l i a)
every_set i nil h = nil
every_set zero (cons k ks) h = cons h ks
every_set (suc i) (cons k ks) h = cons k (every_set i ks h)

unheard_sized : (r : Register) → length r.clients ≡ most_clients → Sized (unheard r)
unheard_sized r e = record { places = e; groups = refl; readings = every_replicate never_heard refl (most access_groups) }

pub empty_sized : Sized empty
empty_sized = unheard_sized empty refl

module _ (r : Register) (s : Sized r) where
  pub readings_sized : (i : ℕ) → length (readings_at r i) ≡ letters
  readings_sized i = every_at i never_heard refl s.readings

  with_client_sized : (p : ℕ) (o : Option Client) → Sized (with_client r p o)
  with_client_sized p o = record { places = length-set r.clients p o ∙ s.places; groups = s.groups; readings = s.readings }

  with_reading_sized : (i letter : ℕ) (x : Reading) → Sized (with_reading r i letter x)
  with_reading_sized i letter x =
      record {
        places = s.places;
        groups = length-set r.readings i (set (readings_at r i) letter x) ∙ s.groups;
        readings = every_set i s.readings (length-set (readings_at r i) letter x ∙ readings_sized i);
      }

  unless_sized : (o : Option Refused) (r' : Register) → Sized r' → Sized (unless o r' r)
  unless_sized none r' h = h
  unless_sized (some x) r' h = s

  set_sized : (o : Option Numbered) (letter : ℕ) (x : Reading) → Sized (reading_set r o letter x)
  set_sized none letter x = s
  set_sized (some g) letter x = with_reading_sized g.number letter x

  load_sized : (a : Loaded) → Sized (after_load a r)
  load_sized (loaded.Accepted n w) = unheard_sized r s.places
  load_sized (loaded.Refused x p) = s

pub call_sized : (g : Gateway) (c : Call) → Sized g.register → Sized (after g c).register
call_sized g (add c) s =
    let r = g.register in
    unless_sized r s (add_refusal r c) (with_client r (lowest_free r.clients) (some c)) (with_client_sized r s (lowest_free r.clients) (some c))
call_sized g (change p c) s =
    let r = g.register in unless_sized r s (change_refusal r p c) (with_client r p (some c)) (with_client_sized r s p (some c))
call_sized g (remove p) s =
    let r = g.register in unless_sized r s (remove_refusal r p) (with_client r p none) (with_client_sized r s p none)
call_sized g (set_reading n letter x) s =
    let r = g.register in
    let o = group_named g.table n in
    unless_sized r s (set_refusal g.table n letter) (reading_set r o letter x) (set_sized r s o letter x)
call_sized g (load_again text) s = load_sized g.register s (load g.table text).answer

pub calls_sized : (g : Gateway) (cs : List Call) → Sized g.register → Sized (after_calls g cs).register
calls_sized g [] s = s
calls_sized g (c ∷ cs) s = calls_sized (after g c) cs (call_sized g c s)

pub sized : (t : List ℕ) (cs : List Call) → Sized (after_calls (begun t) cs).register
sized t cs = calls_sized (begun t) cs empty_sized
