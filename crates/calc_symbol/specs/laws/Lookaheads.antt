-- What the reader makes of the next symbol. Assumes nothing.
use Rattle.std.proofs.Math.Path.{◌≡◌}
use Rattle.std.specs.Prelude.{refl, true, false, ◌⊎◌, ℕ, ◌+◌, ◌≤◌, ◌<◌, length, get_or, drop, eqb, Bool, Option as Maybe, Some, None}
use Rattle.std.proofs.Common.{sym, ◌∙◌, inl, inr, ⊎_elim, arith, eqb-true}
use Rattle.std.proofs.lemmas.Bool.{eqb-false}
use mathlib.Core.List.{List, [], ◌∷◌}
use Rattle.std.proofs.Math.Option.{Option, none, some}
use Rattle.spec_calc.specs.declared.Operator.{Operator}
use Rattle.spec_calc.specs.declared.Operator.TheVariants as op
use Rattle.spec_calc.specs.Symbol.{Symbol, number, letter, operator, not_sign, question, colon, open_paren, close_paren}
use Rattle.spec_calc.specs.Scanner.{wrong, then}
use Rattle.spec_calc.specs.Expression.{Tree}
use Rattle.spec_calc.specs.Reader.{begun, paren, if_of, Stack, State, wanted, have, stuck, ends, reduce, step, prefix, first_of, run}
use Rattle.calc_symbol.specs.Scan.{syms, spelling_at, SymbolAt, BlanksTo}
use Rattle.calc_symbol.specs.declared.First.{First}
use Rattle.calc_symbol.specs.declared.First.TheVariants as first
use Rattle.calc_symbol.specs.declared.Joint.{Joint}
use Rattle.calc_symbol.specs.declared.Joint.TheVariants as joint
use Rattle.calc_symbol.specs.Lookahead.{from, ends_of, BeginsAs, Begins, JoinsAs, Joins, awaited, MarkAt, IsEnd}
use Rattle.spec_lists.proofs.laws.Both.{absurd_bool}
use Rattle.calc_symbol.specs.laws.Bytes.{begins_with, sign_begins_with}
use Rattle.calc_symbol.specs.laws.Scans.{Signed, no_symbol, spelled, Stands, finished, numbered, lettered, signed, at_end, is_byte, stands, past_blanks}

-- ---- one symbol

pub from_then : (st : State) (x : Symbol) (o : Option (List Symbol)) → from st (then x o) ≡ from (step st x) o
unfolding run
from_then st x none = refl
from_then st x (some ss) = refl

stuck_run : (ss : List Symbol) → run stuck ss ≡ none
unfolding run
stuck_run [] = refl
stuck_run (x ∷ ss) = stuck_run ss

pub stuck_from : (o : Option (List Symbol)) → from stuck o ≡ none
stuck_from none = refl
stuck_from (some ss) = stuck_run ss

ends_then : (x : Symbol) (o : Option (List Symbol)) → ends_of (then x o) ≤ ends x
ends_then x none = omega arith
ends_then x (some ss) = omega arith

-- ---- what stands next, for the one who wants an operand

pub one_step : (s : List ℕ) (at : ℕ) (st : State) {x : Symbol} {p : ℕ} → SymbolAt s at x p → from st (syms s at) ≡ from (step st x) (syms s p)
one_step s at st {x} {p} k = rw k.reads (from_then st x (syms s p))

no_step : (s : List ℕ) (at : ℕ) (st : State) (x : Symbol) (o : Option (List Symbol)) → syms s at ≡ then x o → step st x ≡ stuck → from st (syms s at) ≡ none
no_step s at st x o q e = rw q (from_then st x o ∙ rw e (stuck_from o))

pub wanted_end : (o : Option (List Symbol)) → o ≡ some [] → (k : Stack) → from (wanted k) o ≡ none
unfolding run
wanted_end o e k = rw e

pub from_none : (o : Option (List Symbol)) → o ≡ none → (st : State) → from st o ≡ none
from_none o e st = rw e

-- ---- and behind a tree

pub ends_at : (s : List ℕ) (at : ℕ) {x : Symbol} {p : ℕ} → SymbolAt s at x p → ends_of (syms s at) ≤ ends x
ends_at s at {x} {p} k = rw k.reads (ends_then x (syms s p))

-- the end, or a lexical error, ends all
pub ends_none : (o : Option (List Symbol)) (l : ℕ) → o ≡ none → ends_of o ≤ l
ends_none o l e = rw e (omega arith)

pub ends_end : (o : Option (List Symbol)) (l : ℕ) → o ≡ some [] → ends_of o ≤ l
ends_end o l e = rw e (omega arith)

-- ---- at an offset that is not blank

module _ (s : List ℕ) (at : ℕ) where
  -- no sign is spelled there
  pub no_sign : (l : ℕ) → Stands s at → spelling_at s at ≡ wrong → ends_of (syms s at) ≤ l
  no_sign l (finished h e) w = ends_end (syms s at) l e
  no_sign l (numbered v o e) w = let z : ends_of (syms s at) ≤ 0 = rw e (ends_then (number v) o) in omega arith
  no_sign l (lettered i o e) w = let z : ends_of (syms s at) ≤ 0 = rw e (ends_then (letter i) o) in omega arith
  no_sign l (signed (no_symbol e)) w = ends_none (syms s at) l e
  no_sign l (signed (spelled x m o g e)) w = let z : ◌≡◌ {A = ℕ} 0 1 = cc in absurd (omega arith)

  -- no operand begins there
  pub no_operand :
      Signed s at → (get_or s at 0 ≡ 45 → ⊥) → (get_or s at 0 ≡ 40 → ⊥) → (get_or s at 0 ≡ 33 → ⊥) → (k : Stack) → from (wanted k) (syms s at) ≡ none
  no_operand (no_symbol e) a b c k = from_none (syms s at) e (wanted k)
  no_operand (spelled x m o g e) a b c k = no_step s at (wanted k) x o e (go x (sign_begins_with (get_or s at 0) (drop (at + 1) s) g))
    where
      minus_only : (o : Operator) → begins_with (operator o) (get_or s at 0) ≡ true → prefix o k ≡ stuck
      minus_only op.Or h = refl
      minus_only op.And h = refl
      minus_only op.Less h = refl
      minus_only op.AtMost h = refl
      minus_only op.More h = refl
      minus_only op.AtLeast h = refl
      minus_only op.Equal h = refl
      minus_only op.Differs h = refl
      minus_only op.Plus h = refl
      minus_only op.Minus h = absurd (a (eqb-true (get_or s at 0) 45 h))
      minus_only op.Times h = refl
      minus_only op.Over h = refl

      go : (x : Symbol) → begins_with x (get_or s at 0) ≡ true → first_of x k ≡ stuck
      go (number v) h = absurd_bool (sym h)
      go (letter i) h = absurd_bool (sym h)
      go (operator o) h = minus_only o h
      go not_sign h = absurd (c (eqb-true (get_or s at 0) 33 h))
      go question h = refl
      go colon h = refl
      go open_paren h = absurd (b (eqb-true (get_or s at 0) 40 h))
      go close_paren h = refl

  pub no_prefix : (o : Option (List Symbol)) → syms s at ≡ then (operator op.Differs) o → (k : Stack) → from (wanted k) (syms s at) ≡ none
  no_prefix o e k = no_step s at (wanted k) (operator op.Differs) o e refl

  ends_is : (x : Symbol) (o : Option (List Symbol)) → syms s at ≡ then x o → (syms s at ≡ none) ⊎ (ends x ≤ ends_of (syms s at))
  ends_is x none e = inl e
  ends_is x (some ss) e = inr (rw e (omega arith))

  symbol_fails :
      (x : Symbol) (o : Option (List Symbol)) (t : Tree) (k : Stack) → syms s at ≡ then x o → ends_of (syms s at) ≤ 0
      → (ends x ≤ 0 → step (have t k) x ≡ stuck) → from (have t k) (syms s at) ≡ none
  symbol_fails x o t k q h g =
      ⊎_elim (λ e. from_none (syms s at) e (have t k)) (λ (e : ends x ≤ ends_of (syms s at)). no_step s at (have t k) x o q (g (omega arith))) (ends_is x o q)

  -- behind a tree only `:` and `)` are left
  no_other_symbol :
      (t : Tree) (k : Stack) → Stands s at → ends_of (syms s at) ≤ 0 → (length s ≤ at → run (have t k) [] ≡ none)
      → (get_or s at 0 ≡ 58 → step (have t k) colon ≡ stuck) → (get_or s at 0 ≡ 41 → step (have t k) close_paren ≡ stuck)
      → from (have t k) (syms s at) ≡ none
  no_other_symbol t k (finished h e) l z a b = rw e (z h)
  no_other_symbol t k (numbered v o e) l z a b = symbol_fails (number v) o t k e l (λ h. refl)
  no_other_symbol t k (lettered i o e) l z a b = symbol_fails (letter i) o t k e l (λ h. refl)
  no_other_symbol t k (signed (no_symbol e)) l z a b = from_none (syms s at) e (have t k)
  no_other_symbol t k (signed (spelled x m o g e)) l z a b =
      symbol_fails x o t k e l (go x (sign_begins_with (get_or s at 0) (drop (at + 1) s) g))
    where
      go : (x : Symbol) → begins_with x (get_or s at 0) ≡ true → ends x ≤ 0 → step (have t k) x ≡ stuck
      go (number v) h l = refl
      go (letter i) h l = refl
      go (operator o) h l = absurd (omega arith)
      go not_sign h l = refl
      go question h l = absurd (omega arith)
      go colon h l = a (eqb-true (get_or s at 0) 58 h)
      go open_paren h l = refl
      go close_paren h l = b (eqb-true (get_or s at 0) 41 h)

  pub no_mark :
      {b : ℕ} (k : Stack) → awaited k ≡ b ∷ [] → Stands s at → (get_or s at 0 ≡ b → ⊥) → (t : Tree) → ends_of (syms s at) ≤ 0
      → from (have t k) (syms s at) ≡ none
  unfolding reduce run
  no_mark [] e d n t l = let z : ◌≡◌ {A = ℕ} 0 1 = cc in absurd (omega arith)
  no_mark (begun c ∷ k) e d n t l = let z : ◌≡◌ {A = ℕ} 0 1 = cc in absurd (omega arith)
  no_mark {b} (paren ∷ k) e d n t l =
      let z : ◌≡◌ {A = ℕ} 41 b = cc in no_other_symbol t (paren ∷ k) d l (λ h. refl) (λ q. refl) (λ q. absurd (n (q ∙ z)))
  no_mark {b} (if_of c ∷ k) e d n t l =
      let z : ◌≡◌ {A = ℕ} 58 b = cc in no_other_symbol t (if_of c ∷ k) d l (λ h. refl) (λ q. absurd (n (q ∙ z))) (λ q. refl)

  pub no_end : Stands s at → at < length s → (t : Tree) → ends_of (syms s at) ≤ 0 → from (have t []) (syms s at) ≡ none
  unfolding reduce run
  no_end d h t l = no_other_symbol t [] d l (λ g. absurd (omega arith)) (λ q. refl) (λ q. refl)

-- ---- past blanks

module _ (s : List ℕ) (at : ℕ) {p : ℕ} (z : BlanksTo s at p) where
  begins_on : (r : First) (n : ℕ) → BeginsAs s p r n → BeginsAs s at r n
  begins_on (first.Number v) n k = past_blanks s at z k
  begins_on (first.Letter i) n k = (past_blanks s at z k.0, k.1)
  begins_on first.Minus n k = past_blanks s at z k
  begins_on first.Not n k = past_blanks s at z k
  begins_on first.Open n k = past_blanks s at z k

  pub begins_from : (r : Maybe (First × ℕ)) → Begins s p r → Begins s at r
  begins_from (Some r) k = begins_on r.0 r.1 k
  begins_from None k = λ st. rw z.reads (k st)

  joins_on : (l : ℕ) (r : Joint) (n : ℕ) → JoinsAs s p l r n → JoinsAs s at l r n
  joins_on l (joint.By o) n k = (past_blanks s at z k.0, k.1)
  joins_on l joint.Choice n k = (past_blanks s at z k.0, k.1)

  pub joins_from : (l : ℕ) (r : Maybe (Joint × ℕ)) → Joins s p l r → Joins s at l r
  joins_from l (Some r) k = joins_on l r.0 r.1 k
  joins_from l None k = rw z.reads k

  pub mark_here : {b : ℕ} → b ≡ get_or s p 0 → p < length s → MarkAt s at b (Some (p + 1))
  mark_here {b} e h x g = past_blanks s at z (is_byte s p h b (sym e) (g (drop (p + 1) s)))

  -- no stack awaits the byte 0
  awaited_byte : (k : Stack) {b : ℕ} → awaited k ≡ b ∷ [] → 0 < b
  awaited_byte [] e = let z : ◌≡◌ {A = ℕ} 0 1 = cc in absurd (omega arith)
  awaited_byte (begun c ∷ k) e = let z : ◌≡◌ {A = ℕ} 0 1 = cc in absurd (omega arith)
  awaited_byte (paren ∷ k) {b} e = let z : ◌≡◌ {A = ℕ} 41 b = cc in omega arith
  awaited_byte (if_of c ∷ k) {b} e = let z : ◌≡◌ {A = ℕ} 58 b = cc in omega arith

  pub mark_missing : {b : ℕ} → (0 < b → get_or s p 0 ≡ b → ⊥) → MarkAt s at b None
  mark_missing n k e t l = rw z.reads (no_mark s p k e (stands s p z.bare) (n (awaited_byte k e)) t (rw z.reads at l))

  pub end_by : (b : Bool) → b ≡ eqb p (length s) → IsEnd s at b
  end_by true e = z.reads ∙ at_end s p (let q = eqb-true p (length s) (sym e) in omega arith)
  end_by false e = λ t l.
      let w = z.within in
      let n = eqb-false p (length s) (sym e) in
      rw z.reads (no_end s p (stands s p z.bare) (omega arith) t (rw z.reads at l))
