-- Laws of a number's digits. Assumes nothing.
use Rattle.std.specs.Prelude.{◌≡◌, ℕ, suc, ◌+◌, ◌-◌, ◌*◌, ◌^◌, ◌<◌, ◌≤◌, Bool, true, false, List, length, drop, nat_le, slice_index, refl, Option, Some, None}
use Rattle.std.proofs.Common.{sym, ◌∙◌, ap, subst, arith, pow-suc, leb-true}
use Rattle.std.proofs.Math.Nat.{pow-le-pow_right}
use Rattle.spec_lists.specs.Text.{digit, whole}
use Rattle.spec_lists.specs.Select.{run}
use Rattle.spec_lists.proofs.laws.Both.{both}
use Rattle.calc_numeral.specs.declared.Digits.{Digits}
use Rattle.calc_numeral.specs.Numeral.{Counted, Counts}
use Rattle.calc_numeral.specs.laws.Runs.{passed_inside, run_more, after_more, stops}

-- ---- the digits of a number

pub digit_low : (b : ℕ) → digit b ≡ true → 48 ≤ b
digit_low b e = leb-true 48 b (both (nat_le 48 b) (nat_le b 57) e).0

pub digit_high : (b : ℕ) → digit b ≡ true → b ≤ 57
digit_high b e = leb-true b 57 (both (nat_le 48 b) (nat_le b 57) e).1

-- the number that digits make stays below the power of ten
pub room_for : (left n d : ℕ) → 1 ≤ left → left ≤ 15 → n < 10 ^ (15 - left) → d ≤ 9 → n * 10 + d < 10 ^ (15 - (left - 1))
room_for left n d l h a e = subst (λ (k : ℕ). n * 10 + d < 10 ^ k) step (omega (arith, pow-suc 10 (15 - left)))
  where
    step : suc (15 - left) ≡ 15 - (left - 1)
    step = omega arith

pub small : (left n : ℕ) → n < 10 ^ (15 - left) → n < 10 ^ 15
small left n a = omega (arith, pow-le-pow_right {n = 10} (omega arith) {i = 15 - left} {j = 15} (omega arith))

-- b is the byte at an offset, and d whether it is a digit
module _ (s : List ℕ) (at left n : ℕ) {b : ℕ} {d : Bool} (eb : b ≡ slice_index s at) (ed : d ≡ digit b) where
  tested : (t : Bool) → d ≡ t → digit (slice_index s at) ≡ t
  tested t e = ap digit (sym eb) ∙ (sym ed ∙ e)

  pub digit_inside : d ≡ true → at < length s
  digit_inside e = passed_inside digit s at refl (tested true e)

  pub digit_read : {c : ℕ} → c ≡ slice_index s at → d ≡ true → digit c ≡ true
  digit_read q e = ap digit q ∙ tested true e

  pub digit_room : {m : ℕ} → d ≡ true → 1 ≤ left → left ≤ 15 → n < 10 ^ (15 - left) → m ≡ n * 10 + (b - 48) → m < 10 ^ (15 - (left - 1))
  digit_room e l h a q = let z = digit_high b (sym ed ∙ e) in rw q (room_for left n (b - 48) l h a (omega arith))

  pub digits_full : d ≡ true → left ≡ 0 → left < length (run digit (drop at s))
  digits_full e z = rw (run_more digit s at (tested true e) (digit_inside e)) (omega arith)

  pub digits_stop : d ≡ false → at ≤ length s → n < 10 ^ (15 - left) → Counted s at left n n at left
  digits_stop e h a =
      let z = stops digit s at (tested false e) in
      record { offset = rw z.0 (omega arith); room = rw z.0 (omega arith); within = h; makes = rw z.0; small = a; behind = z.1 }

  pub digits_more : (m : ℕ) (r : Option Digits) → d ≡ true → 1 ≤ left → m ≡ n * 10 + (b - 48) → Counts s (at + 1) (left - 1) m r → Counts s at left n r
  digits_more m (Some a) e h q k =
      let z = run_more digit s at (tested true e) (digit_inside e) in
      record {
        offset = rw z (omega (arith, k.offset));
        room = rw z (omega (arith, k.room));
        within = k.within;
        makes = rw z (subst (λ (x : ℕ). a.number ≡ whole x (run digit (drop (at + 1) s))) (q ∙ ap (λ (y : ℕ). n * 10 + (y - 48)) eb) k.makes);
        small = k.small;
        behind = after_more digit s at (tested true e) (digit_inside e) ∙ k.behind;
      }
  digits_more m None e h q k = rw (run_more digit s at (tested true e) (digit_inside e)) (omega (arith, k))

-- the digits are counted up to p: those from there on, behind m, are those from at on, behind n
pub record Counting (s : List ℕ) (at left n p l m : ℕ) : Type 0 where
  pub within : p ≤ length s
  pub few : l ≤ 15
  pub small : m < 10 ^ (15 - l)
  pub whole_run : (r : Option Digits) → Counts s p l m r → Counts s at left n r

pub counting_on :
    (s : List ℕ) (at left n p l m : ℕ) {b q : ℕ} {d : Bool} → Counting s at left n p l m → b ≡ slice_index s p → d ≡ digit b → d ≡ true → 1 ≤ l
    → q ≡ m * 10 + (b - 48) → Counting s at left n (p + 1) (l - 1) q
counting_on s at left n p l m {q = q} k eb ed e h eq =
    record {
      within = omega (arith, digit_inside s p l m eb ed e);
      few = omega (arith, k.few);
      small = digit_room s p l m eb ed e h k.few k.small eq;
      whole_run = λ r g. k.whole_run r (digits_more s p l m eb ed q r e h eq g);
    }

-- a power of ten that a divisor needs
pub ten_fits : (k : ℕ) → k ≤ 15 → 10 ^ k < 2 ^ 64
ten_fits k h = omega (arith, pow-le-pow_right {n = 10} (omega arith) {i = k} {j = 15} h)
