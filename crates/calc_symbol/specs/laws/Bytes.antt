-- Laws of single bytes and their spellings. Assumes nothing.
use Rattle.std.specs.Prelude.{◌≡◌, Bool, false, not, ◌&&◌, ℕ, suc, ◌<◌, eqb, ltb, length, get_or, take}
use Rattle.std.proofs.Math.Path.{refl, subst}
use Rattle.std.proofs.Common.{sym, ◌∙◌, arith}
use Rattle.std.proofs.Math.Bool.{true}
use mathlib.Core.List.{List, [], ◌∷◌}
use Rattle.std.proofs.Math.Option.{Option, none, some}
use borrow.Author.Tests.{ne_eqb, eqb-true, ltb-true}
use Rattle.spec_lists.specs.Text.{same, within, among, digit}
use Rattle.spec_lists.specs.Select.{all, first}
use Rattle.spec_lists.proofs.laws.Both.{both, absurd_bool}
use Rattle.spec_lists.proofs.laws.Member.{all_member, first_member}
use Rattle.spec_calc.specs.declared.Operator.{Operator}
use Rattle.spec_calc.specs.declared.Operator.TheVariants as op
use Rattle.spec_calc.specs.Symbol.{Symbol, number, letter, operator, not_sign, question, colon, open_paren, close_paren, Spelling, spellings}
use Rattle.spec_calc.specs.Symbol.{numeral_byte}
use Rattle.spec_calc.specs.Scanner.{sign, sign_of, wrong, start, spelling}
use Rattle.calc_symbol.specs.Scan.{single}
use Rattle.spec_calc.proofs.laws.Symbols.{start_by}

-- what a byte begins that is neither blank nor part of a number nor a letter
module _ (b : ℕ) (n9 : b ≡ 9 → ⊥) (n32 : b ≡ 32 → ⊥) (n46 : b ≡ 46 → ⊥) where
  pub start_other : (s : List ℕ) → digit b ≡ false → within 65 85 b ≡ false → within 97 117 b ≡ false → start b s ≡ spelling b s
  unfolding spelling
  start_other s d u l = rw (ne_eqb b 32 n32, ne_eqb b 9 n9, d, ne_eqb b 46 n46, u, l)

-- ---- spellings

-- two bytes are not the spelling of x and y
both_false : (x y b d : ℕ) → (b ≡ x → d ≡ y → ⊥) → (eqb x b && (eqb y d && true)) ≡ false
both_false x y b d n = go (eqb x b) (eqb y d) refl refl
  where
    go : (p q : Bool) → eqb x b ≡ p → eqb y d ≡ q → (p && (q && true)) ≡ false
    go true true e f = absurd (n (sym (eqb-true x b e)) (sym (eqb-true y d f)))
    go true false e f = refl
    go false q e f = refl

-- no spelling of two bytes
pub no_pair :
    (b d : ℕ)
    → (b ≡ 124 → d ≡ 124 → ⊥) → (b ≡ 38 → d ≡ 38 → ⊥) → (b ≡ 60 → d ≡ 61 → ⊥)
    → (b ≡ 62 → d ≡ 61 → ⊥) → (b ≡ 61 → d ≡ 61 → ⊥) → (b ≡ 33 → d ≡ 61 → ⊥) → single b ≡ spelling b (d ∷ [])
unfolding spelling single
no_pair b d n1 n2 n3 n4 n5 n6 =
    rw (
      both_false 124 124 b d n1,
      both_false 38 38 b d n2,
      both_false 60 61 b d n3,
      both_false 62 61 b d n4,
      both_false 61 61 b d n5,
      both_false 33 61 b d n6,
    )

-- nor is one of a second byte that no spelling has: it is no =, and not twice | or &
pub no_second_of : (b d : ℕ) → (d ≡ 61 → ⊥) → (b ≡ 124 → d ≡ 124 → ⊥) → (b ≡ 38 → d ≡ 38 → ⊥) → single b ≡ spelling b (d ∷ [])
no_second_of b d n n1 n2 = no_pair b d n1 n2 (λ _. n) (λ _. n) (λ _. n) (λ _. n)

-- a spelling looks at two bytes at most
pub two_bytes : (b : ℕ) (s : List ℕ) → spelling b s ≡ spelling b (get_or s 0 0 ∷ [])
unfolding spelling
two_bytes b [] = refl
two_bytes b (d ∷ s) = refl

-- none that has no second byte
pub no_second : (b : ℕ) → single b ≡ spelling b []
no_second b =
    no_pair b 0 (λ _. absurd_zero) (λ _. absurd_zero) (λ _. absurd_zero) (λ _. absurd_zero) (λ _. absurd_zero) (λ _. absurd_zero) ∙ sym (two_bytes b [])
  where
    absurd_zero : {n : ℕ} → 0 ≡ suc n → ⊥
    absurd_zero e = omega arith

-- the spellings of two bytes
pub spelled_or : (b d : ℕ) → b ≡ 124 → d ≡ 124 → sign (operator op.Or) 1 ≡ spelling b (d ∷ [])
unfolding spelling
spelled_or b d e f = rw (e, f) refl

pub spelled_and : (b d : ℕ) → b ≡ 38 → d ≡ 38 → sign (operator op.And) 1 ≡ spelling b (d ∷ [])
unfolding spelling
spelled_and b d e f = rw (e, f) refl

pub spelled_at_most : (b d : ℕ) → b ≡ 60 → d ≡ 61 → sign (operator op.AtMost) 1 ≡ spelling b (d ∷ [])
unfolding spelling
spelled_at_most b d e f = rw (e, f) refl

pub spelled_at_least : (b d : ℕ) → b ≡ 62 → d ≡ 61 → sign (operator op.AtLeast) 1 ≡ spelling b (d ∷ [])
unfolding spelling
spelled_at_least b d e f = rw (e, f) refl

pub spelled_equal : (b d : ℕ) → b ≡ 61 → d ≡ 61 → sign (operator op.Equal) 1 ≡ spelling b (d ∷ [])
unfolding spelling
spelled_equal b d e f = rw (e, f) refl

pub spelled_differs : (b d : ℕ) → b ≡ 33 → d ≡ 61 → sign (operator op.Differs) 1 ≡ spelling b (d ∷ [])
unfolding spelling
spelled_differs b d e f = rw (e, f) refl

-- no spelling of one byte
pub no_single :
    (b : ℕ)
    → (b ≡ 60 → ⊥) → (b ≡ 62 → ⊥) → (b ≡ 61 → ⊥) → (b ≡ 35 → ⊥) → (b ≡ 43 → ⊥) → (b ≡ 45 → ⊥) → (b ≡ 42 → ⊥)
    → (b ≡ 47 → ⊥) → (b ≡ 33 → ⊥) → (b ≡ 63 → ⊥) → (b ≡ 58 → ⊥) → (b ≡ 40 → ⊥) → (b ≡ 41 → ⊥) → wrong ≡ single b
unfolding single
no_single b n1 n2 n3 n4 n5 n6 n7 n8 n9 n10 n11 n12 n13 =
    rw (
      other 60 n1,
      other 62 n2,
      other 61 n3,
      other 35 n4,
      other 43 n5,
      other 45 n6,
      other 42 n7,
      other 47 n8,
      other 33 n9,
      other 63 n10,
      other 58 n11,
      other 40 n12,
      other 41 n13,
    )
  where
    other : (x : ℕ) → (b ≡ x → ⊥) → eqb x b ≡ false
    other x n = ne_eqb x b (λ e. n (sym e))

-- ---- the first byte of a sign

-- minus alone begins an operand
abbrev minus_byte : Operator → ℕ → Bool
minus_byte op.Or b = true
minus_byte op.And b = true
minus_byte op.Less b = true
minus_byte op.AtMost b = true
minus_byte op.More b = true
minus_byte op.AtLeast b = true
minus_byte op.Equal b = true
minus_byte op.Differs b = true
minus_byte op.Plus b = true
minus_byte op.Minus b = eqb b 45
minus_byte op.Times b = true
minus_byte op.Over b = true

-- a byte that a sign can begin with
abbrev pub begins_with : Symbol → ℕ → Bool
begins_with (number v) b = false
begins_with (letter i) b = false
begins_with (operator o) b = minus_byte o b
begins_with not_sign b = eqb b 33
begins_with question b = eqb b 63
begins_with colon b = eqb b 58
begins_with open_paren b = eqb b 40
begins_with close_paren b = eqb b 41

abbrev sign_byte : ℕ → Bool
sign_byte b = ltb 0 b && (not (among " \t" b) && (not (numeral_byte b) && (not (within 65 85 b) && not (within 97 117 b))))

abbrev head_passes : (ℕ → Bool) → List ℕ → Bool
head_passes p [] = false
head_passes p (c ∷ w) = p c

abbrev first_byte_ok : Spelling → Bool
first_byte_ok x = head_passes (λ c. begins_with x.symbol c && sign_byte c) x.spelled

all_first_bytes_ok : all first_byte_ok spellings ≡ true
all_first_bytes_ok = refl

sign_byte_start : (b : ℕ) (s : List ℕ) → sign_byte b ≡ true → start b s ≡ spelling b s
unfolding spelling
sign_byte_start b s h = go (among " \t" b) (numeral_byte b) (within 65 85 b) (within 97 117 b) h
  where
    go :
        (p q u v : Bool) → ltb 0 b && (not p && (not q && (not u && not v))) ≡ true
        → start_by p q u v b (spelling b s) ≡ spelling b s
    go true q u v h = absurd_bool (sym (both (ltb 0 b) false h).1)
    go false true u v h = absurd_bool (sym (both (ltb 0 b) false h).1)
    go false false true v h = absurd_bool (sym (both (ltb 0 b) false h).1)
    go false false false true h = absurd_bool (sym (both (ltb 0 b) false h).1)
    go false false false false h = refl

module _ (b : ℕ) (s : List ℕ) {x : Symbol} {m : ℕ} (e : spelling b s ≡ sign x m) where
  first_byte : (begins_with x b ≡ true) × (sign_byte b ≡ true)
  unfolding spelling
  first_byte = go (first (λ x. same x.spelled (take (length x.spelled) (b ∷ s))) spellings) refl e
    where
      head :
          (y : Symbol) (w : List ℕ) → head_passes (λ c. begins_with y c && sign_byte c) w ≡ true → same w (take (length w) (b ∷ s)) ≡ true
          → (begins_with y b ≡ true) × (sign_byte b ≡ true)
      head y [] h g = absurd_bool (sym h)
      head y (c ∷ w) h g =
          let z = eqb-true c b (both (eqb c b) (same w (take (length w) s)) g).0 in
          subst (λ (n : ℕ). (begins_with y n ≡ true) × (sign_byte n ≡ true)) z (both (begins_with y c) (sign_byte c) h)

      go :
          (o : Option Spelling) → first (λ x. same x.spelled (take (length x.spelled) (b ∷ s))) spellings ≡ o → sign_of o ≡ sign x m
          → (begins_with x b ≡ true) × (sign_byte b ≡ true)
      go none q g = let z : ◌≡◌ {A = ℕ} 0 1 = cc in absurd (omega arith)
      go (some y) q g =
          let k = first_member (λ x. same x.spelled (take (length x.spelled) (b ∷ s))) spellings q in
          let ex : y.symbol ≡ x = cc in
          subst (λ (z : Symbol). (begins_with z b ≡ true) × (sign_byte b ≡ true)) ex (head y.symbol y.spelled (all_member first_byte_ok spellings all_first_bytes_ok k.0) k.1)

  pub sign_begins_with : begins_with x b ≡ true
  sign_begins_with = first_byte.0

  pub sign_nonzero : 0 < b
  sign_nonzero =
      ltb-true 0 b
      (both (ltb 0 b) (not (among " \t" b) && (not (numeral_byte b) && (not (within 65 85 b) && not (within 97 117 b)))) first_byte.1).0

  pub sign_start : start b s ≡ sign x m
  sign_start = sign_byte_start b s first_byte.1 ∙ e

-- an exclamation mark, and what stands behind it
pub not_start : (s : List ℕ) → (get_or s 0 0 ≡ 61 → ⊥) → start 33 s ≡ sign not_sign 0
not_start [] n = refl
not_start (d ∷ s) n = rw (ne_eqb 61 d (λ e. n (sym e)))

pub differs_start : (s : List ℕ) → get_or s 0 0 ≡ 61 → start 33 s ≡ sign (operator op.Differs) 1
differs_start [] e = absurd (omega arith)
differs_start (d ∷ s) e = rw e
