-- What stands next in a text. Assumes nothing.
use Rattle.std.specs.Prelude.{◌≡◌, Bool, true, false, ℕ, ◌+◌, ◌-◌, ◌≤◌, ◌<◌, ltb, leb, get_or, take, Float, Option as Maybe, Some, None}
use Rattle.std.proofs.Math.Path.{refl, ap, subst}
use Rattle.std.proofs.Common.{sym, ◌∙◌, arith, add-one, lt-ltb, leb-true, leb-false, drop_of_length-le, drop-cons, drop-drop}
use mathlib.Core.List.{List, [], ◌∷◌}
use Rattle.std.proofs.Math.Option.{Option, none, some}
use Rattle.std.proofs.Math.ListN.{length, drop}
use Rattle.spec_lists.specs.Text.{same, among, within}
use Rattle.spec_lists.specs.Select.{first, run, after}
use Rattle.spec_calc.specs.Symbol.{Symbol, number, letter, operator, not_sign, Spelling, spellings}
use Rattle.spec_calc.specs.Scanner.{blank, figure, wrong, sign, sign_of, start, spelling, then}
use Rattle.spec_calc.specs.Symbol.{numeral_byte}
use Rattle.spec_calc.specs.Scanner.{then_number, numeral, symbols}
use Rattle.spec_calc.proofs.laws.Symbols.{start_by, blank_start, blank_byte, figure_byte, scan_end, scan_blank, scan_figure, scan_wrong, scan_sign}
use Rattle.spec_calc.specs.declared.Operator.TheVariants as op
use Rattle.calc_symbol.specs.declared.Class.{Class}
use Rattle.calc_symbol.specs.declared.Class.TheVariants as class
use Rattle.calc_symbol.specs.declared.Sign.{Sign}
use Rattle.calc_symbol.specs.Scan.{syms, start_at, spelling_at, SignOnly, symbol_of, single, started, ClassOk, single_as, pair_as}
use Rattle.calc_symbol.specs.Scan.{SymbolAt, PairAt, BlanksTo}
use Rattle.calc_numeral.specs.Numeral.{Numbered}
use Rattle.std.proofs.Math.ListN.{get_or-eq_default}
use Rattle.std.specs.Prelude.{IfSome}
use Rattle.spec_calc.specs.declared.Operator.{Operator}
use Rattle.spec_lists.proofs.laws.Both.{absurd_bool}
use Rattle.calc_numeral.specs.laws.Runs.{passed_inside, head_at}
use Rattle.calc_symbol.specs.laws.Bytes.{two_bytes, no_second, sign_start, not_start, differs_start}

-- a byte that is not 0 stands in the text
pub nonzero_inside : (s : List ℕ) (at : ℕ) {b : ℕ} → b ≡ get_or s at 0 → 0 < b → at < length s
nonzero_inside s at {b} e h = passed_inside (ltb 0) s at refl (lt-ltb 0 (get_or s at 0) (omega arith))

-- a sign stands at an offset, or the text is wrong there
pub data Signed (s : List ℕ) (p : ℕ) : Type 0 where
  no_symbol : syms s p ≡ none → Signed s p
  spelled : (x : Symbol) (m : ℕ) (o : Option (List Symbol)) → spelling_at s p ≡ sign x m → syms s p ≡ then x o → Signed s p

-- what stands at an offset that is not blank
pub data Stands (s : List ℕ) (p : ℕ) : Type 0 where
  finished : length s ≤ p → syms s p ≡ some [] → Stands s p
  numbered : (v : Float) (o : Option (List Symbol)) → syms s p ≡ then (number v) o → Stands s p
  lettered : (i : ℕ) (o : Option (List Symbol)) → syms s p ≡ then (letter i) o → Stands s p
  signed : Signed s p → Stands s p

module _ (s : List ℕ) (at : ℕ) where
  pub at_end : length s ≤ at → syms s at ≡ some []
  unfolding syms
  at_end h = ap symbols (drop_of_length-le s h) ∙ scan_end

  module _ (h : at < length s) where
    at_cons : drop at s ≡ get_or s at 0 ∷ drop (at + 1) s
    at_cons = rw (add-one at) (drop-cons s at 0 h)

    is_wrong : start_at s at ≡ wrong → syms s at ≡ none
    unfolding syms
    is_wrong e = ap symbols at_cons ∙ scan_wrong (get_or s at 0) (drop (at + 1) s) e

    is_blank : start_at s at ≡ blank → syms s at ≡ syms s (at + 1)
    unfolding syms
    is_blank e = ap symbols at_cons ∙ scan_blank (get_or s at 0) (drop (at + 1) s) e

    sign_reads : {x : Symbol} (m : ℕ) → start_at s at ≡ sign x m → syms s at ≡ then x (syms s (at + 1 + m))
    unfolding syms
    sign_reads {x} m e =
        ap symbols at_cons ∙ (scan_sign (get_or s at 0) (drop (at + 1) s) e ∙ ap (λ (y : List ℕ). then x (symbols y)) (drop-drop m (at + 1) s))

    is_sign : {x : Symbol} (m : ℕ) → start_at s at ≡ sign x m → at + 1 + m ≤ length s → SymbolAt s at x (at + 1 + m)
    is_sign m e l = record { later = omega arith; within = l; reads = sign_reads m e }

    -- a symbol of one byte
    is_single : {x : Symbol} → start_at s at ≡ sign x 0 → SymbolAt s at x (at + 1)
    is_single {x} e = subst (SymbolAt s at x) (omega arith) (is_sign 0 e (omega arith))

    -- the same, known by the byte
    pub is_byte : {x : Symbol} (b : ℕ) → get_or s at 0 ≡ b → start b (drop (at + 1) s) ≡ sign x 0 → SymbolAt s at x (at + 1)
    is_byte b q e = is_single (ap (λ (n : ℕ). start n (drop (at + 1) s)) q ∙ e)

    figures : start_at s at ≡ figure → syms s at ≡ then_number (numeral (run numeral_byte (drop at s))) (symbols (after numeral_byte (drop at s)))
    unfolding syms
    figures e = rw at_cons (scan_figure (get_or s at 0) (drop (at + 1) s) e)

    pub signed_at : SignOnly s at → Signed s at
    unfolding spelling
    signed_at e = go (first (λ x. same x.spelled (take (length x.spelled) (get_or s at 0 ∷ drop (at + 1) s))) spellings) refl e
      where
        go :
            (o : Option Spelling) → first (λ x. same x.spelled (take (length x.spelled) (get_or s at 0 ∷ drop (at + 1) s))) spellings ≡ o
            → start_at s at ≡ sign_of o → Signed s at
        go none q g = no_symbol (is_wrong g)
        go (some y) q g =
            let m = length y.spelled - 1 in spelled y.symbol m (syms s (at + 1 + m)) (ap sign_of q) (sign_reads m g)

    stands_inside : among " \t" (get_or s at 0) ≡ false → Stands s at
    unfolding spelling
    stands_inside bare = go (among " \t" (get_or s at 0)) (numeral_byte (get_or s at 0)) (within 65 85 (get_or s at 0)) (within 97 117 (get_or s at 0)) refl refl
      where
        number : (o : Option Float) (y : Option (List Symbol)) → syms s at ≡ then_number o y → Stands s at
        number none y e = signed (no_symbol e)
        number (some v) y e = numbered v y e

        go :
            (p q u v : Bool) → among " \t" (get_or s at 0) ≡ p
            → start_at s at ≡ start_by p q u v (get_or s at 0) (spelling_at s at)
            → Stands s at
        go true q u v f e = absurd_bool (sym f ∙ bare)
        go false true u v f e = number (numeral (run numeral_byte (drop at s))) (symbols (after numeral_byte (drop at s))) (figures e)
        go false false true v f e = lettered (get_or s at 0 - 65) (syms s (at + 1 + 0)) (sign_reads 0 e)
        go false false false true f e = lettered (get_or s at 0 - 97) (syms s (at + 1 + 0)) (sign_reads 0 e)
        go false false false false f e = signed (signed_at e)

  pub stands : among " \t" (get_or s at 0) ≡ false → Stands s at
  stands bare = go (leb (length s) at) refl
    where
      go : (t : Bool) → leb (length s) at ≡ t → Stands s at
      go true e = finished (leb-true (length s) at e) (at_end (leb-true (length s) at e))
      go false e = stands_inside (leb-false (length s) at e) bare

no_zero : single 0 ≡ wrong
unfolding single
no_zero = refl

module _ (s : List ℕ) (at : ℕ) where
  -- ---- skip_blanks

  module _ (p : ℕ) (reads : syms s at ≡ syms s p) {b : ℕ} {t : Bool} (eb : b ≡ get_or s p 0) (et : t ≡ among " \t" b) where
    pub blank_inside : t ≡ true → p < length s
    blank_inside e = passed_inside (among " \t") s p refl (ap (among " \t") (sym eb) ∙ (sym et ∙ e))

    pub blank_on : t ≡ true → syms s at ≡ syms s (p + 1)
    blank_on e = reads ∙ is_blank s p (blank_inside e) (blank_start (get_or s p 0) (drop (p + 1) s) (ap (among " \t") (sym eb) ∙ (sym et ∙ e)))

    pub blank_off : t ≡ false → at ≤ p → p ≤ length s → BlanksTo s at p
    blank_off e l w = record { later = l; within = w; reads = reads; bare = ap (among " \t") (sym eb) ∙ (sym et ∙ e) }

  pub past_blanks : {p : ℕ} {x : Symbol} {n : ℕ} → BlanksTo s at p → SymbolAt s p x n → SymbolAt s at x n
  past_blanks z k = record { later = omega (arith, z.later, k.later); within = k.within; reads = z.reads ∙ k.reads }

  -- ---- pair_at

  within_pair : (r : Maybe Operator) → at + 1 < length s → IfSome r (λ _. at + 1 < length s)
  within_pair (Some o) h = h
  within_pair None h = tt

  pub pair_read :
      (r : Maybe Operator) {b d : ℕ} → at + 1 < length s → b ≡ get_or s at 0 → d ≡ get_or s (at + 1) 0 → pair_as r (single b) ≡ spelling b (d ∷ [])
      → PairAt s at r
  pair_read r {b} {d} h eb ed e =
      record {
        spells = rw (← eb) (e ∙ rw (ed, ← head_at numeral_byte s (at + 1)) (sym (two_bytes b (drop (at + 1) s))));
        inside = within_pair r h;
      }

  pub pair_past : length s ≤ at + 1 → PairAt s at None
  pair_past h = record { spells = no_second (get_or s at 0) ∙ ap (spelling (get_or s at 0)) (sym (drop_of_length-le s h)); inside = tt }

  -- ---- sign_at

  pub sign_two : (o : Operator) → PairAt s at (Some o) → SymbolAt s at (operator o) (at + 2)
  sign_two o k =
      let i = k.inside in
      subst (SymbolAt s at (operator o)) (omega arith) (is_sign s at (omega arith) 1 (sign_start (get_or s at 0) (drop (at + 1) s) (sym k.spells)) (omega arith))

  module _ (k : PairAt s at None) where
    pub sign_past : length s ≤ at → spelling_at s at ≡ wrong
    sign_past h = sym k.spells ∙ ap single (get_or-eq_default s 0 h) ∙ no_zero

    module _ (h : at < length s) {b : ℕ} (eb : b ≡ get_or s at 0) where
      sign_is : (r : Maybe Sign) → single_as r ≡ single b → spelling_at s at ≡ single_as r
      sign_is r e = sym k.spells ∙ ap single (sym eb) ∙ sym e

      pub sign_one : (x : Sign) → single_as (Some x) ≡ single b → SymbolAt s at (symbol_of x) (at + 1)
      sign_one x e = is_single s at h (sign_start (get_or s at 0) (drop (at + 1) s) (sign_is (Some x) e))

      pub sign_none : single_as None ≡ single b → spelling_at s at ≡ wrong
      sign_none e = sign_is None e

  -- ---- first_other

  module _ (h : at < length s) {d : ℕ} (q : get_or s at 0 ≡ 33) (ed : d ≡ get_or s (at + 1) 0) where
    pub is_not : (d ≡ 61 → ⊥) → SymbolAt s at not_sign (at + 1)
    is_not n = is_byte s at h 33 q (not_start (drop (at + 1) s) (λ e. n (ed ∙ (sym (head_at numeral_byte s (at + 1)) ∙ e))))

    pub is_differs : d ≡ 61 → syms s at ≡ then (operator op.Differs) (syms s (at + 1 + 1))
    is_differs e =
        sign_reads s at h 1 (ap (λ (n : ℕ). start n (drop (at + 1) s)) q ∙ differs_start (drop (at + 1) s) (head_at numeral_byte s (at + 1) ∙ (sym ed ∙ e)))

  -- ---- first_at

  module _ (h : at < length s) {b : ℕ} (eb : b ≡ get_or s at 0) (r : Class) (er : (y : List ℕ) → start b y ≡ started r b y) where
    starts : (q : Class) → r ≡ q → start_at s at ≡ started q (get_or s at 0) (drop (at + 1) s)
    starts q g =
        subst (λ (n : ℕ). start n (drop (at + 1) s) ≡ started q n (drop (at + 1) s)) eb
        (er (drop (at + 1) s) ∙ ap (λ (y : Class). started y b (drop (at + 1) s)) g)

    pub not_blank : {A : Type 0} → r ≡ class.Blank → among " \t" (get_or s at 0) ≡ false → A
    not_blank g e = absurd_bool (sym (blank_byte (get_or s at 0) (drop (at + 1) s) (starts class.Blank g)) ∙ e)

    pub next_figure : r ≡ class.Figure → numeral_byte (get_or s at 0) ≡ true
    next_figure g = figure_byte (get_or s at 0) (drop (at + 1) s) (starts class.Figure g)

    pub next_number : r ≡ class.Figure → {x : Float × ℕ} → Numbered s at (Some x) → SymbolAt s at (number x.0) x.1
    unfolding syms
    next_number g k = record { later = k.0.later; within = k.0.within; reads = figures s at h (starts class.Figure g) ∙ rw (k.1, k.0.behind) }

    pub next_no_number : r ≡ class.Figure → Numbered s at None → syms s at ≡ none
    next_no_number g k = figures s at h (starts class.Figure g) ∙ rw k

    pub next_letter : {i : ℕ} → r ≡ class.Letter i → ClassOk r → SymbolAt s at (letter i) (at + 1) × (i < 21)
    next_letter {i} g k = (is_single s at h (starts (class.Letter i) g), subst ClassOk g k)

    pub next_other : r ≡ class.Other → SignOnly s at
    next_other g = starts class.Other g
