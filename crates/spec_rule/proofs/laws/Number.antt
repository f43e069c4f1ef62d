-- A decision is read again from its number, if its letter is one of A to U; and so are those of rules.
use Rattle.std.specs.Prelude.{◌≡◌, refl, Bool, true, false, cond, not, List, ℕ, zero, suc, ◌+◌, ◌*◌, ◌-◌, ◌/◌, ◌%◌, ◌≤◌, ◌<◌, leb, eqb}
use Rattle.std.proofs.Common.{sym, ap, ap₂, ◌∙◌, arith, le-leb, leb-true, ne_eqb}
use Rattle.std.proofs.lemmas.Bool.{lt-leb}
use Rattle.spec_rule.specs.declared.Access.{Access}
use Rattle.spec_rule.specs.declared.Access.TheVariants as access
use Rattle.spec_rule.specs.declared.Stop.{Stop}
use Rattle.spec_rule.specs.declared.Stop.TheVariants.{Nothing, Letter}
use Rattle.spec_rule.specs.declared.Decision.{Decision}
use Rattle.spec_rule.specs.Question.{Question}
use Rattle.spec_rule.specs.Rule.{Rule, rank, access_by, letter_by}
use Rattle.spec_rule.specs.Decision.{with_letter, decision_by}
use Rattle.spec_rule.specs.Kept.{bit}
use Rattle.spec_rule.specs.Number.{letter_number, decision_number, access_from, trap_from, letter_from, decision_from}
use Rattle.spec_rule.proofs.laws.Stopped.{stopped_known, letter_is}

-- ---- as code finds them

pub letter_small : (s : Stop) → letter_number s ≤ 21
letter_small Nothing = omega arith
letter_small (Letter i) = go (leb i 20) refl
  where
    go : (b : Bool) → leb i 20 ≡ b → cond b (suc i) 0 ≤ 21
    go true e = let l = leb-true i 20 e in omega arith
    go false e = omega arith

pub access_other : (n : ℕ) → (n ≡ 1 → ⊥) → (n ≡ 2 → ⊥) → access_from n ≡ access.None
access_other zero a b = refl
access_other (suc zero) a b = absurd (a refl)
access_other (suc (suc zero)) a b = absurd (b refl)
access_other (suc (suc (suc n))) a b = refl

trap_is : (n : ℕ) → trap_from n ≡ not (eqb n 0)
trap_is zero = refl
trap_is (suc n) = ap not (sym (ne_eqb (suc n) 0 (λ e. omega arith)))

pub letter_below : (n : ℕ) → (n ≡ 0 → ⊥) → n ≤ 21 → letter_from n ≡ Letter (n - 1)
letter_below zero z l = absurd (z refl)
letter_below (suc i) z l = rw (le-leb i 20 (omega arith)) (ap Letter (let e : i ≡ suc i - 1 = omega arith in e))

pub letter_beyond : (n : ℕ) → 21 < n → letter_from n ≡ Nothing
letter_beyond zero l = refl
letter_beyond (suc i) l = rw (lt-leb i 20 (omega arith))

pub from_parts :
    (n : ℕ) {a : Access} {s : Stop} → a ≡ access_from (n % 4) → s ≡ letter_from (n / 8) → with_letter a (not (eqb (n / 4 % 2) 0)) s ≡ decision_from n
from_parts n e f = rw (e, f, trap_is (n / 4 % 2))

-- ---- and back

-- none, or one of A to U
abbrev pub Known : Stop → Type 0
Known Nothing = Unit {0}
Known (Letter i) = i ≤ 20

pub rank_small : (a : Access) → rank a < 4
rank_small access.None = omega arith
rank_small access.Read = omega arith
rank_small access.Write = omega arith

bit_small : (b : Bool) → bit b < 2
bit_small true = omega arith
bit_small false = omega arith

pub access_again : (a : Access) → access_from (rank a) ≡ a
access_again access.None = refl
access_again access.Read = refl
access_again access.Write = refl

trap_again : (b : Bool) → trap_from (bit b) ≡ b
trap_again true = refl
trap_again false = refl

pub letter_again : (s : Stop) → Known s → letter_from (letter_number s) ≡ s
letter_again Nothing k = refl
letter_again (Letter i) k = let z = le-leb i 20 k in rw (z, z)

pub decision_again : (d : Decision) → Known d.letter → decision_from (decision_number d) ≡ d
decision_again d k =
    let r = rank_small d.access in
    let b = bit_small d.trap in
    let n = rank d.access + 4 * bit d.trap + 8 * letter_number d.letter in
    let x : n % 4 ≡ rank d.access = omega (arith, r, b) in
    let h : n / 4 ≡ bit d.trap + 2 * letter_number d.letter = omega (arith, r, b) in
    let g : (bit d.trap + 2 * letter_number d.letter) % 2 ≡ bit d.trap = omega (arith, b) in
    let y : n / 4 % 2 ≡ bit d.trap = ap (λ (m : ℕ). m % 2) h ∙ g in
    let z : n / 8 ≡ letter_number d.letter = omega (arith, r, b) in
    ap₂ (λ (a : Access) (t : Bool). with_letter a t (letter_from (n / 8))) (ap access_from x ∙ access_again d.access) (ap trap_from y ∙ trap_again d.trap)
    ∙ ap (with_letter d.access d.trap) (ap letter_from z ∙ letter_again d.letter k)

pub letter_known : (n : ℕ) → Known (letter_from n)
letter_known zero = tt
letter_known (suc i) = go (leb i 20) refl
  where
    go : (b : Bool) → leb i 20 ≡ b → Known (cond b (Letter i) Nothing)
    go true e = leb-true i 20 e
    go false e = tt

-- a letter that rules give is one of a calculation
pub decision_known : (q : Question) (rs : List Rule) → Known (decision_by q rs).letter
decision_known q rs = go (letter_by q (access_by q rs) rs) refl
  where
    go : (s : Stop) → letter_by q (access_by q rs) rs ≡ s → Known s
    go Nothing e = tt
    go (Letter i) e = let w = (letter_is q (access_by q rs) rs i).0 e in stopped_known q w.0 w.2
