-- The scanner finds exactly the symbols that a text has.
use Rattle.std.specs.Prelude.{◌≡◌, refl, Bool, true, false, ◌&&◌, ℕ, zero, suc, ◌-◌, ◌≤◌, leb, eqb, length, take, drop, Float}
use Rattle.std.proofs.Common.{sym, ◌∙◌, ap, subst, arith, leb-true, eqb-true, eq-eqb, ne_eqb}
use mathlib.Core.List.{List, [], ◌∷◌, ◌++◌, Memᴰ}
use Rattle.std.proofs.Math.Option.{Option, none, some}
use Rattle.std.proofs.Math.Seq.{take-append_seam, drop-append_seam}
use Rattle.spec_lists.specs.Text.{same, among, within, digit}
use Rattle.spec_lists.specs.Select.{all, first, first_if, run, after}
use Rattle.spec_lists.specs.Every.{Every, nil, cons}
use Rattle.spec_lists.proofs.laws.Both.{both, absurd_bool, or_false}
use Rattle.spec_lists.proofs.laws.Range.{bounded}
use Rattle.spec_lists.proofs.laws.Member.{every_member, all_member, first_member}
use Rattle.spec_calc.specs.declared.Operator.TheVariants.{AtMost, AtLeast, Equal, Differs, Less, More}
use Rattle.spec_calc.specs.Symbol.{Symbol, number, operator, not_sign, numeral_byte, Number, whole_number, with_point, behind_point}
use Rattle.spec_calc.specs.Symbol.{Spelling, spellings, Spelled, Longest, Spells, end, skipped, numbered, capital, small, signed}
use Rattle.spec_calc.specs.Scanner.{numeral, Start, blank, figure, wrong, sign, sign_of, start, then, then_number, symbols_in, symbols}
use Rattle.spec_calc.proofs.laws.Numeral.{numeral_complete, numeral_sound}
use Rattle.spec_calc.proofs.laws.Symbols.{begun_sign, blank_start, start_digit, start_upper, start_lower, blank_byte, figure_byte, scan_end}
use Rattle.spec_calc.proofs.laws.Symbols.{scan_blank, scan_figure, scan_sign}

-- ---- lists of spellings

abbrev size : Spelling → ℕ
size x = length x.spelled

-- no spelling is longer than an earlier one
abbrev falling : List Spelling → Bool
falling [] = true
falling (x ∷ xs) = all (λ y. leb (size y) (size x)) xs && falling xs

first_longest :
    (p : Spelling → Bool) (xs : List Spelling) {x y : Spelling} → falling xs ≡ true → first p xs ≡ some x → Memᴰ y xs → p y ≡ true → size y ≤ size x
first_longest p [] h e m g = let z : ◌≡◌ {A = ℕ} 0 1 = cc in absurd (omega arith)
first_longest p (w ∷ ws) {x} {y} h e m g =
    let k = both (all (λ z. leb (size z) (size w)) ws) (falling ws) h in go (p w) refl k.0 (λ f n. first_longest p ws k.1 f n g) e m
  where
    go :
        (t : Bool) → p w ≡ t → all (λ z. leb (size z) (size w)) ws ≡ true → (first p ws ≡ some x → Memᴰ y ws → size y ≤ size x)
        → first_if t w (first p ws) ≡ some x → Memᴰ y (w ∷ ws) → size y ≤ size x
    go true q k ih e (Memᴰ.head f) = let z : y ≡ x = cc in rw z (omega arith)
    go true q k ih e (Memᴰ.tail m) =
        let z : w ≡ x = cc in rw (← z) (leb-true (size y) (size w) (all_member (λ z. leb (size z) (size w)) ws k m))
    go false q k ih e (Memᴰ.head f) = absurd_bool (sym g ∙ (ap p f ∙ q))
    go false q k ih e (Memᴰ.tail m) = ih e m

-- no spelling is empty
spelled_long : {y : Spelling} → Memᴰ y spellings → 1 ≤ size y
spelled_long {y} m = leb-true 1 (size y) (all_member (λ x. leb 1 (size x)) spellings refl m)

-- ---- what a text begins with

same_refl : (w : List ℕ) → same w w ≡ true
same_refl [] = refl
same_refl (b ∷ w) = rw (eq-eqb b b refl) (same_refl w)

-- a text that has the bytes w at its start is w and what follows
begins : (w s : List ℕ) → same w (take (length w) s) ≡ true → s ≡ w ++ drop (length w) s
begins [] s e = refl
begins (b ∷ w) [] e = absurd_bool (sym e)
begins (b ∷ w) (c ∷ s) e =
    let z = both (eqb b c) (same w (take (length w) s)) e in
    rw (eqb-true b c z.0) (ap (λ (l : List ℕ). c ∷ l) (begins w s z.1))

abbrev start_of : List ℕ → Start
start_of [] = wrong
start_of (b ∷ s) = start b s

-- ---- complete: from the symbols to the scanner

-- a sign that begins a text, and no longer one does
abbrev Starts : Spelling → Type 0
Starts x = (r : List ℕ) → Longest x.spelled (x.spelled ++ r) → start_of (x.spelled ++ r) ≡ sign x.symbol (size x - 1)

-- no `=` follows where it would make a longer sign
not_equals : (b d : ℕ) (r : List ℕ) {y : Symbol} → Spelled (b ∷ 61 ∷ []) y → Longest (b ∷ []) (b ∷ d ∷ r) → eqb 61 d ≡ false
not_equals b d r {y} m l = ne_eqb 61 d (λ e. omega (arith, l (b ∷ 61 ∷ []) r y (rw e refl) m))

less_starts : (r : List ℕ) → Longest (60 ∷ []) (60 ∷ r) → start 60 r ≡ sign (operator Less) 0
less_starts [] l = refl
less_starts (d ∷ r) l = rw (not_equals 60 d r {y = operator AtMost} (Memᴰ.tail (Memᴰ.tail (Memᴰ.head refl))) l)

more_starts : (r : List ℕ) → Longest (62 ∷ []) (62 ∷ r) → start 62 r ≡ sign (operator More) 0
more_starts [] l = refl
more_starts (d ∷ r) l = rw (not_equals 62 d r {y = operator AtLeast} (Memᴰ.tail (Memᴰ.tail (Memᴰ.tail (Memᴰ.head refl)))) l)

equal_starts : (r : List ℕ) → Longest (61 ∷ []) (61 ∷ r) → start 61 r ≡ sign (operator Equal) 0
equal_starts [] l = refl
equal_starts (d ∷ r) l =
    rw (not_equals 61 d r {y = operator Equal} (Memᴰ.tail (Memᴰ.tail (Memᴰ.tail (Memᴰ.tail (Memᴰ.head refl))))) l)

not_starts : (r : List ℕ) → Longest (33 ∷ []) (33 ∷ r) → start 33 r ≡ sign not_sign 0
not_starts [] l = refl
not_starts (d ∷ r) l =
    rw (not_equals 33 d r {y = operator Differs} (Memᴰ.tail (Memᴰ.tail (Memᴰ.tail (Memᴰ.tail (Memᴰ.tail (Memᴰ.head refl)))))) l)

all_start : Every Starts spellings
all_start =
    cons (λ r l. refl)
    (cons (λ r l. refl)
    (cons (λ r l. refl)
    (cons (λ r l. refl)
    (cons (λ r l. refl)
    (cons (λ r l. refl)
    (cons less_starts
    (cons more_starts
    (cons equal_starts
    (cons (λ r l. refl)
    (cons (λ r l. refl)
    (cons (λ r l. refl)
    (cons (λ r l. refl)
    (cons (λ r l. refl)
    (cons not_starts
    (cons (λ r l. refl)
    (cons (λ r l. refl)
    (cons (λ r l. refl)
    (cons (λ r l. refl)
    nil))))))))))))))))))

pub numeral_start : (b : ℕ) (s : List ℕ) → numeral_byte b ≡ true → start b s ≡ figure
numeral_start b s e = go (digit b) refl e
  where
    go : (t : Bool) → digit b ≡ t → numeral_byte b ≡ true → start b s ≡ figure
    go true h e = let z = bounded 48 57 b h in start_digit b s z.0 z.1
    go false h e =
        let k : b ≡ 46 = eqb-true b 46 (sym (or_false (eqb b 46)) ∙ rw h at e) in
        subst (λ (n : ℕ). start n s ≡ figure) (sym k) refl

number_long : {s : List ℕ} {v : Float} → Number s v → 1 ≤ length s
number_long (whole_number d h) = d.1
number_long (with_point w f {s} d g e h) = go w e d.1
  where
    go : (w : List ℕ) → s ≡ w ++ (46 ∷ f) → 1 ≤ length w → 1 ≤ length s
    go [] e k = absurd (omega arith)
    go (b ∷ w) e k = rw e (omega arith)
number_long (behind_point d h) = omega arith

number_scanned :
    (s : List ℕ) {v : Float} {xs : List Symbol} → Number (run numeral_byte s) v → symbols (after numeral_byte s) ≡ some xs → symbols s ≡ some (number v ∷ xs)
number_scanned [] n e = absurd (omega (arith, number_long n))
number_scanned (b ∷ s) {v} {xs} n e = go (numeral_byte b) refl
  where
    go : (t : Bool) → numeral_byte b ≡ t → symbols (b ∷ s) ≡ some (number v ∷ xs)
    go true h = scan_figure b s (numeral_start b s h) ∙ rw (numeral_complete n, e)
    go false h = absurd (omega (arith, rw h at (number_long n)))

sign_scanned :
    (s w r : List ℕ) {x : Symbol} {xs : List Symbol} → s ≡ w ++ r → Spelled w x → Longest w s → symbols r ≡ some xs → symbols s ≡ some (x ∷ xs)
sign_scanned s w r {x} {xs} q m l e = go s w q (spelled_long m) (rw q (every_member all_start m r (rw q at l)))
  where
    go : (s w : List ℕ) → s ≡ w ++ r → 1 ≤ length w → start_of s ≡ sign x (length w - 1) → symbols s ≡ some (x ∷ xs)
    go [] w q k h = let z : ◌≡◌ {A = ℕ} 0 1 = cc in absurd (omega arith)
    go (b ∷ s) [] q k h = absurd (omega arith)
    go (b ∷ s) (c ∷ w) q k h =
        let t : s ≡ w ++ r = cc in
        let n : length (c ∷ w) - 1 ≡ length w = omega arith in
        let d : drop (length (c ∷ w) - 1) s ≡ r = rw (n, t) (drop-append_seam w r) in
        scan_sign b s h ∙ rw (d, e)

pub spells_complete : {s : List ℕ} {xs : List Symbol} → Spells s xs → symbols s ≡ some xs
spells_complete end = scan_end
spells_complete (skipped {b = b} {s = s} e d) = scan_blank b s (blank_start b s e) ∙ spells_complete d
spells_complete (numbered {s = s} n d) = number_scanned s n (spells_complete d)
spells_complete (capital {b = b} {s = s} e d) = let z = bounded 65 85 b e in scan_sign b s (start_upper b s z.0 z.1) ∙ rw (spells_complete d)
spells_complete (small {b = b} {s = s} e d) = let z = bounded 97 117 b e in scan_sign b s (start_lower b s z.0 z.1) ∙ rw (spells_complete d)
spells_complete (signed {s = s} {w = w} {r = r} q m l d) = sign_scanned s w r q m l (spells_complete d)

-- ---- sound: from the scanner to the symbols

drop_behind : (n b : ℕ) (s : List ℕ) → 1 ≤ n → drop n (b ∷ s) ≡ drop (n - 1) s
drop_behind zero b s h = absurd (omega arith)
drop_behind (suc n) b s h = let z : suc n - 1 ≡ n = omega arith in rw z

-- what a sign is, and what follows it
sign_parts : (y : Spelling) {x : Symbol} {m : ℕ} → sign_of (some y) ≡ sign x m → (y.symbol ≡ x) × (size y - 1 ≡ m)
sign_parts y e = (cc, cc)

sign_none : {A : Type 0} {x : Symbol} {m : ℕ} → sign_of none ≡ sign x m → A
sign_none e = let z : ◌≡◌ {A = ℕ} 0 1 = cc in absurd (omega arith)

at_once : (m : ℕ) (s : List ℕ) {xs : List Symbol} → Spells (drop m s) xs → 0 ≡ m → Spells s xs
at_once m s {xs} d k = subst (λ (n : ℕ). Spells (drop n s) xs) (sym k) d

module _ (b : ℕ) (s : List ℕ) {x : Symbol} {m : ℕ} {xs : List Symbol} (d : Spells (drop m s) xs) where
  first_sound :
      (o : Option Spelling) → first (λ y. same y.spelled (take (length y.spelled) (b ∷ s))) spellings ≡ o → sign_of o ≡ sign x m
      → Spells (b ∷ s) (x ∷ xs)
  first_sound none q e = sign_none e
  first_sound (some y) q e =
      let k = first_member (λ y. same y.spelled (take (length y.spelled) (b ∷ s))) spellings q in
      let z = sign_parts y e in
      signed {w = y.spelled} {r = drop (size y) (b ∷ s)} {x = x} (begins y.spelled (b ∷ s) k.1) (rw (← z.0) k.0)
      (λ v r y t n. first_longest (λ y. same y.spelled (take (length y.spelled) (b ∷ s))) spellings refl q n (rw (t, take-append_seam v r) (same_refl v)))
      (subst (λ (l : List ℕ). Spells l xs) (sym (drop_behind (size y) b s (spelled_long k.0) ∙ ap (λ (n : ℕ). drop n s) z.1)) d)

  sign_sound : start b s ≡ sign x m → Spells (b ∷ s) (x ∷ xs)
  sign_sound e =
      begun_sign b (among " \t" b) (numeral_byte b) (within 65 85 b) (within 97 117 b)
      (sign_of (first (λ y. same y.spelled (take (length y.spelled) (b ∷ s))) spellings))
      (λ f g h. subst (λ (y : Symbol). Spells (b ∷ s) (y ∷ xs)) g (capital f (at_once m s d h)))
      (λ f g h. subst (λ (y : Symbol). Spells (b ∷ s) (y ∷ xs)) g (small f (at_once m s d h)))
      (first_sound (first (λ y. same y.spelled (take (length y.spelled) (b ∷ s))) spellings) refl)
      e

-- the symbols that are found, if they are, are the text's
abbrev Found : List ℕ → Option (List Symbol) → Type 0
Found s none = Unit {0}
Found s (some xs) = Spells s xs

then_found :
    (x : Symbol) (s r : List ℕ) (o : Option (List Symbol)) → ((xs : List Symbol) → Spells r xs → Spells s (x ∷ xs)) → Found r o → Found s (then x o)
then_found x s r none f d = tt
then_found x s r (some xs) f d = f xs d

found_step : (n b : ℕ) (s : List ℕ) → ((t : List ℕ) → Found t (symbols_in n t)) → (x : Start) → start b s ≡ x → Found (b ∷ s) (symbols_in (suc n) (b ∷ s))
unfolding symbols_in
found_step n b s h blank e = rw (e, symbols_in) (go (symbols_in n s) (h s))
  where
    go : (o : Option (List Symbol)) → Found s o → Found (b ∷ s) o
    go none d = tt
    go (some xs) d = skipped (blank_byte b s e) d
found_step n b s h figure e = rw (e, symbols_in) (go (numeral (run numeral_byte (b ∷ s))) refl)
  where
    long : 1 ≤ length (run numeral_byte (b ∷ s))
    long = rw (figure_byte b s e) (omega arith)

    go :
        (o : Option Float) → numeral (run numeral_byte (b ∷ s)) ≡ o
        → Found (b ∷ s) (then_number o (symbols_in n (after numeral_byte (b ∷ s))))
    go none q = tt
    go (some v) q =
        then_found (number v) (b ∷ s) (after numeral_byte (b ∷ s)) (symbols_in n (after numeral_byte (b ∷ s)))
        (λ xs d. numbered (numeral_sound (run numeral_byte (b ∷ s)) long q) d)
        (h (after numeral_byte (b ∷ s)))
found_step n b s h wrong e = rw (e, symbols_in) tt
found_step n b s h (sign x m) e = rw (e, symbols_in) (then_found x (b ∷ s) (drop m s) (symbols_in n (drop m s)) (λ xs d. sign_sound b s d e) (h (drop m s)))

found_in : (n : ℕ) (s : List ℕ) → Found s (symbols_in n s)
unfolding symbols_in
found_in zero [] = end
found_in zero (b ∷ s) = tt
found_in (suc n) [] = end
found_in (suc n) (b ∷ s) = found_step n b s (found_in n) (start b s) refl

pub spells_sound : (s : List ℕ) {xs : List Symbol} → symbols s ≡ some xs → Spells s xs
spells_sound s e = subst (Found s) e (found_in (length s) s)

pub one_spelling : {s : List ℕ} {xs ys : List Symbol} → Spells s xs → Spells s ys → xs ≡ ys
one_spelling d e = cc (spells_complete d, spells_complete e)
