-- The bits that a call answers are set exactly at the places whose right it changed.
use Rattle.std.specs.Prelude.{◌≡◌, refl, Bool, true, false, not, ◌||◌, List, [], ◌∷◌, map, ◌↔◌, ℕ, zero, suc, ◌+◌, ◌*◌, ◌/◌, ◌%◌, ◌<◌, eqb, get_or}
use Rattle.std.proofs.Common.{sym, ap, ap₂, ◌∙◌, arith, eqb-true, eq-eqb}
use Rattle.std.proofs.lemmas.Bool.{false≢true, not-false}
use Rattle.std.proofs.Math.Option.{Option, none, some}
use Rattle.spec_lists.proofs.laws.Both.{neither}
use Rattle.spec_rule.specs.declared.Access.{Access}
use Rattle.spec_rule.specs.declared.Stop.{Stop}
use Rattle.spec_rule.specs.declared.Stop.TheVariants.{Nothing, Letter}
use Rattle.spec_rule.specs.declared.Decision.{Decision}
use Rattle.spec_rule.specs.Rule.{rank}
use Rattle.spec_rule.specs.Decision.{with_letter}
use Rattle.spec_rule.specs.Kept.{bit}
use Rattle.spec_file.specs.Refusal as text
use Rattle.spec_table.specs.Policy.{permission}
use Rattle.spec_table.proofs.laws.Preserved.{permission_rank}
use Rattle.spec_load.specs.declared.Loaded.{Loaded}
use Rattle.spec_load.specs.declared.Loaded.TheVariants as loaded
use Rattle.spec_load.specs.Load.{load}
use Rattle.spec_register.specs.declared.Refused.{Refused}
use Rattle.spec_register.specs.Register.{most_clients}
use Rattle.spec_register.specs.Right.{bits, places, same_letter, differ, differing}
use Rattle.spec_register.specs.Refusal.{number, add_refusal, change_refusal, remove_refusal, set_refusal, lowest_free}
use Rattle.spec_register.specs.Calls.{Gateway, Call, add, change, remove, set_reading, load_again, after, right_at, changed_by, client_added}
use Rattle.spec_register.specs.Calls.{rights_changed, table_loaded, added_at, changed_or, reloaded_as, answer, refusal_of}
use Rattle.spec_register.specs.Sentences.{changed_in, bit_of}
use Rattle.spec_register.proofs.laws.From.{given_at}
use Rattle.spec_register.proofs.laws.Refused.{refused_call_leaves}

-- ---- two rights

one_rank : (a b : Access) → rank a ≡ rank b → a ≡ b
one_rank a b e = sym (permission_rank a) ∙ ap permission e ∙ permission_rank b

one_bit : (a b : Bool) → bit a ≡ bit b → a ≡ b
one_bit true true e = refl
one_bit true false e = absurd (omega arith)
one_bit false true e = absurd (omega arith)
one_bit false false e = refl

one_letter : (s u : Stop) → same_letter s u ≡ true → s ≡ u
one_letter Nothing Nothing e = refl
one_letter Nothing (Letter j) e = absurd (false≢true e)
one_letter (Letter i) Nothing e = absurd (false≢true e)
one_letter (Letter i) (Letter j) e = ap Letter (eqb-true i j e)

letter_self : (s : Stop) → same_letter s s ≡ true
letter_self Nothing = refl
letter_self (Letter i) = eq-eqb i i refl

alike : (d e : Decision) → differ d e ≡ false → d ≡ e
alike d e f =
    let a = eqb (rank d.access) (rank e.access) in
    let t = eqb (bit d.trap) (bit e.trap) in
    let l = same_letter d.letter e.letter in
    let h = neither (not a) (not t || not l) f in
    let k = neither (not t) (not l) h.1 in
    ap₂
    (λ (x : Access) (y : Bool). with_letter x y d.letter)
    (one_rank d.access e.access (eqb-true (rank d.access) (rank e.access) (not-false a h.0)))
    (one_bit d.trap e.trap (eqb-true (bit d.trap) (bit e.trap) (not-false t k.0)))
    ∙ ap (with_letter e.access e.trap) (one_letter d.letter e.letter (not-false l k.1))

pub differ_self : (d : Decision) → differ d d ≡ false
differ_self d = rw (eq-eqb (rank d.access) (rank d.access) refl, eq-eqb (bit d.trap) (bit d.trap) refl, letter_self d.letter)

pub differ_is : (d e : Decision) → (differ d e ≡ true) ↔ (d ≡ e → ⊥)
differ_is d e = (λ t s. false≢true (sym (differ_self d) ∙ ap (differ d) s ∙ t), λ n. by (differ d e) refl n)
  where
    by : (b : Bool) → differ d e ≡ b → (d ≡ e → ⊥) → b ≡ true
    by true f n = refl
    by false f n = absurd (n (alike d e f))

-- ---- bits

low : (b : Bool) (m : ℕ) → eqb ((bit b + 2 * m) % 2) 1 ≡ b
low true m = eq-eqb ((1 + 2 * m) % 2) 1 (omega arith)
low false m = ap (λ (k : ℕ). eqb k 1) (let z : (0 + 2 * m) % 2 ≡ 0 = omega arith in z)

high : (b : Bool) (m : ℕ) → (bit b + 2 * m) / 2 ≡ m
high true m = omega arith
high false m = omega arith

bit_at : (bs : List Bool) (p : ℕ) → bit_of p (bits bs) ≡ get_or bs p false
bit_at [] zero = refl
bit_at [] (suc p) = bit_at [] p
bit_at (b ∷ bs) zero = low b (bits bs)
bit_at (b ∷ bs) (suc p) = ap (bit_of p) (high b (bits bs)) ∙ bit_at bs p

-- "which places changed, as 64 bits"
pub changed_is :
    (g : Gateway) (c : Call) (p : ℕ) → p < most_clients → (bit_of p (changed_by g c) ≡ true) ↔ (right_at g p ≡ right_at (after g c) p → ⊥)
changed_is g c p h =
    let f : ℕ → Bool = λ q. differ (right_at g q) (right_at (after g c) q) in
    let e : bit_of p (changed_by g c) ≡ f p =
    bit_at (map f places) p ∙ given_at f most_clients p false h in
    let d = differ_is (right_at g p) (right_at (after g c) p) in
    (λ t. d.0 (sym e ∙ t), λ n. e ∙ d.1 n)

none_differ : (f : ℕ → Decision) (l : List ℕ) → bits (map (λ p. differ (f p) (f p)) l) ≡ 0
none_differ f [] = refl
none_differ f (p ∷ l) = rw (differ_self (f p), none_differ f l)

pub refused_changes_none : (g : Gateway) (c : Call) (n : ℕ) → refusal_of (answer g c) ≡ some n → changed_by g c ≡ 0
refused_changes_none g c n e =
    ap (λ (h : Gateway). differing (right_at g) (right_at h)) (refused_call_leaves g c n e) ∙ none_differ (right_at g) places

-- ---- the bits in an answer

added_bits :
    (o : Option Refused) (p m : ℕ) → ((n : ℕ) → refusal_of (client_added (added_at o p m)) ≡ some n → m ≡ 0)
    → changed_in (client_added (added_at o p m)) ≡ m
added_bits none p m z = refl
added_bits (some x) p m z = sym (z (number x) refl)

changed_bits :
    (o : Option Refused) (m : ℕ) → ((n : ℕ) → refusal_of (rights_changed (changed_or o m)) ≡ some n → m ≡ 0)
    → changed_in (rights_changed (changed_or o m)) ≡ m
changed_bits none m z = refl
changed_bits (some x) m z = sym (z (number x) refl)

loaded_bits :
    (a : Loaded) (m : ℕ) → ((n : ℕ) → refusal_of (table_loaded (reloaded_as a m)) ≡ some n → m ≡ 0)
    → changed_in (table_loaded (reloaded_as a m)) ≡ m
loaded_bits (loaded.Accepted n w) m z = refl
loaded_bits (loaded.Refused x p) m z = sym (z (text.number x) refl)

answered_bits : (g : Gateway) (c : Call) → changed_in (answer g c) ≡ changed_by g c
answered_bits g (add c) =
    added_bits (add_refusal g.register c) (lowest_free g.register.clients) (changed_by g (add c)) (refused_changes_none g (add c))
answered_bits g (change p c) = changed_bits (change_refusal g.register p c) (changed_by g (change p c)) (refused_changes_none g (change p c))
answered_bits g (remove p) = changed_bits (remove_refusal g.register p) (changed_by g (remove p)) (refused_changes_none g (remove p))
answered_bits g (set_reading n letter x) =
    changed_bits (set_refusal g.table n letter) (changed_by g (set_reading n letter x)) (refused_changes_none g (set_reading n letter x))
answered_bits g (load_again s) = loaded_bits (load g.table s).answer (changed_by g (load_again s)) (refused_changes_none g (load_again s))

-- "which places changed, as 64 bits"
pub answered_is :
    (g : Gateway) (c : Call) (p : ℕ) → p < most_clients
    → (bit_of p (changed_in (answer g c)) ≡ true) ↔ (right_at g p ≡ right_at (after g c) p → ⊥)
answered_is g c p h = rw (answered_bits g c) (changed_is g c p h)

-- a load under a register answers what a load answers, and the bits
pub load_answers :
    (g : Gateway) (s : List ℕ) → answer g (load_again s) ≡ table_loaded (reloaded_as (load g.table s).answer (changed_in (answer g (load_again s))))
load_answers g s = by (load g.table s).answer (changed_by g (load_again s))
  where
    by : (a : Loaded) (m : ℕ) → table_loaded (reloaded_as a m) ≡ table_loaded (reloaded_as a (changed_in (table_loaded (reloaded_as a m))))
    by (loaded.Accepted n w) m = refl
    by (loaded.Refused x p) m = refl
