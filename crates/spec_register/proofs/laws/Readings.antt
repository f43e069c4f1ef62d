-- Each reading stays as last set since the last accepted load; setting one leaves all others.
use Rattle.std.specs.Prelude.{◌≡◌, refl, true, false, List, [], ◌∷◌, ℕ, ◌≤◌, ◌<◌}
use Rattle.std.proofs.Common.{sym, ap, ◌∙◌, inl, inr, arith, get_or-set_same}
use Rattle.std.proofs.lemmas.Bool.{false≢true}
use Rattle.std.proofs.Math.Option.{Option, none, some}
use Rattle.spec_calc.specs.declared.Reading.{Reading}
use Rattle.spec_calc.specs.declared.Reading.TheVariants.{NeverHeard}
use Rattle.spec_calc.specs.Value.{reading}
use Rattle.spec_file.specs.Limit.{most, access_groups}
use Rattle.spec_table.specs.Table.{Table}
use Rattle.spec_decision.specs.Groups.{Numbered, group_named}
use Rattle.spec_load.specs.declared.Loaded.{Loaded}
use Rattle.spec_load.specs.declared.Loaded.TheVariants as loaded
use Rattle.spec_load.specs.Load.{is_accepted, load}
use Rattle.spec_load.proofs.laws.Load.{refused_leaves}
use Rattle.spec_register.specs.declared.Refused.{Refused}
use Rattle.spec_register.specs.Register.{Client, Register, letters, never_heard, readings_at, with_client, with_reading, unheard}
use Rattle.spec_register.specs.Refusal.{add_refusal, change_refusal, remove_refusal, set_refusal, lowest_free}
use Rattle.spec_register.specs.Calls.{Gateway, Call, add, change, remove, set_reading, load_again, unless, reading_set, after_load, after, after_calls}
use Rattle.spec_register.specs.Calls.{answer, refusal_of}
use Rattle.spec_register.specs.Sentences.{Sized, NotRefused, EachDone, reading_at, OnlyReading, Named, HasInput, SparesReading, NoLoad}
use Rattle.spec_register.proofs.laws.Alone.{set_here, elsewhere}
use Rattle.spec_register.proofs.laws.Input.{settable}
use Rattle.spec_register.proofs.laws.Sized.{at_replicate, readings_sized}
use Rattle.spec_register.proofs.laws.Refused.{set_done, set_refused, load_done, named_group_is}

-- ---- one reading of a register

unheard_at : (r : Register) (i letter : ℕ) → reading_at (unheard r) i letter ≡ NeverHeard
unheard_at r i letter =
    ap (λ (rs : List Reading). reading rs letter) (at_replicate (most access_groups) never_heard i) ∙ at_replicate letters NeverHeard letter

module _ (r : Register) (i letter : ℕ) (x : Reading) where
  only_set : Sized r → i < most access_groups → letter < letters → OnlyReading i letter x r (with_reading r i letter x)
  only_set s h k =
      record {
        here =
            ap (λ (rs : List Reading). reading rs letter) (set_here r i letter x (omega (arith, h, s.groups)))
            ∙ get_or-set_same (readings_at r i) letter x NeverHeard (omega (arith, k, readings_sized r s i));
        others = elsewhere r i letter x;
        clients = refl;
      }

-- ---- a set, a load

-- "Setting one reading changes that one place among its group's 21."
pub set_only :
    (g : Gateway) (n : List ℕ) (letter : ℕ) (x : Reading) (h : Numbered) → Sized g.register → Named g.table n h
    → NotRefused g (set_reading n letter x) → OnlyReading h.number letter x g.register (after g (set_reading n letter x)).register
set_only g n letter x h s known e =
    let f = (set_done g n letter x).0 e in
    let w = settable g.table n letter f in
    let named = (named_group_is g.table n h).1 known in
    let same : w.0 ≡ h = cc w.1.named in
    let k : h.number < most access_groups = rw (← same) w.1.number in
    rw (f, named) (only_set g.register h.number letter x s k w.1.lettered)

-- 22: no input of a table has a letter over 20
pub set_letter_over :
    (g : Gateway) → Table g.table → (n : List ℕ) (letter : ℕ) (x : Reading) → letters ≤ letter
    → refusal_of (answer g (set_reading n letter x)) ≡ some 22
set_letter_over g t n letter x l = (set_refused g (some 22) n letter x).1 (inr (λ no. no t, inl (no_such, refl)))
  where
    no_such : HasInput g.table n letter → ⊥
    no_such i =
        let done = (set_refused g none n letter x).1 (inr (λ no. no t, inr (λ no. no i, refl))) in
        omega (arith, (settable g.table n letter ((set_done g n letter x).0 done)).1.lettered)

-- "A good load makes every reading never heard"
pub loaded_unheard :
    (g : Gateway) (s : List ℕ) → NotRefused g (load_again s)
    → ((i letter : ℕ) → reading_at (after g (load_again s)).register i letter ≡ NeverHeard)
    × ((after g (load_again s)).register.clients ≡ g.register.clients)
loaded_unheard g s e = by (load g.table s).answer ((load_done g s).0 e)
  where
    by :
        (a : Loaded) → is_accepted a ≡ true
        → ((i letter : ℕ) → reading_at (after_load a g.register) i letter ≡ NeverHeard)
        × ((after_load a g.register).clients ≡ g.register.clients)
    by (loaded.Accepted n w) h = (unheard_at g.register, refl)
    by (loaded.Refused y p) h = absurd (false≢true h)

-- ---- "until then each stays as last set"

module _ (g : Gateway) (i letter : ℕ) (x : Reading) (given : reading_at g.register i letter ≡ x) where
  of_clients : (o : Option Refused) (p : ℕ) (k : Option Client) → reading_at (unless o (with_client g.register p k) g.register) i letter ≡ x
  of_clients none p k = given
  of_clients (some y) p k = given

  of_set :
      (o : Option Refused) (h : Option Numbered) (l : ℕ) (y : Reading)
      → (o ≡ none → (k : Numbered) → h ≡ some k → k.number ≡ i → l ≡ letter → ⊥)
      → reading_at (unless o (reading_set g.register h l y) g.register) i letter ≡ x
  of_set none none l y n = given
  of_set none (some k) l y n = elsewhere g.register k.number l y i letter (λ e f. n refl k refl (sym e) (sym f)) ∙ given
  of_set (some z) h l y n = given

  call_spares : (d : Call) → (NotRefused g d → SparesReading i letter g d) → reading_at (after g d).register i letter ≡ x
  call_spares (add c) n = of_clients (add_refusal g.register c) (lowest_free g.register.clients) (some c)
  call_spares (change p c) n = of_clients (change_refusal g.register p c) p (some c)
  call_spares (remove p) n = of_clients (remove_refusal g.register p) p none
  call_spares (set_reading m l y) n =
      of_set (set_refusal g.table m l) (group_named g.table m) l y
      (λ f k e. n ((set_done g m l y).1 f) k ((named_group_is g.table m k).0 e))
  call_spares (load_again s) n = by (load g.table s).answer (load_done g s).1
    where
      by : (a : Loaded) → (is_accepted a ≡ true → NotRefused g (load_again s)) → reading_at (after_load a g.register) i letter ≡ x
      by (loaded.Accepted k w) h = absurd (n (h refl))
      by (loaded.Refused y p) h = given

pub reading_stays :
    (g : Gateway) (i letter : ℕ) (x : Reading) → reading_at g.register i letter ≡ x
    → (cs : List Call) → EachDone (SparesReading i letter) g cs → reading_at (after_calls g cs).register i letter ≡ x
reading_stays g i letter x h [] n = h
reading_stays g i letter x h (d ∷ cs) n = reading_stays (after g d) i letter x (call_spares g i letter x h d n.0) cs n.1

-- ---- the table of the last accepted load stands

load_leaves : (g : Gateway) (s : List ℕ) → (NotRefused g (load_again s) → ⊥) → (after g (load_again s)).table ≡ g.table
load_leaves g s n = refused_leaves g.table s (by (load g.table s).answer (load_done g s).1)
  where
    by : (a : Loaded) → (is_accepted a ≡ true → NotRefused g (load_again s)) → is_accepted a ≡ false
    by (loaded.Accepted k w) h = absurd (n (h refl))
    by (loaded.Refused x p) h = refl

call_leaves : (g : Gateway) (c : Call) → (NotRefused g c → NoLoad g c) → (after g c).table ≡ g.table
call_leaves g (add c) n = refl
call_leaves g (change p c) n = refl
call_leaves g (remove p) n = refl
call_leaves g (set_reading m letter x) n = refl
call_leaves g (load_again s) n = load_leaves g s n

pub table_stays : (g : Gateway) (cs : List Call) → EachDone NoLoad g cs → (after_calls g cs).table ≡ g.table
table_stays g [] n = refl
table_stays g (c ∷ cs) n = table_stays (after g c) cs n.1 ∙ call_leaves g c n.0
