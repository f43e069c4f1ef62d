-- Laws of decimal digits.
use Rattle.std.specs.Prelude.{◌≡◌, refl, Bool, true, false, cond, List, [], ◌∷◌, ◌++◌, ℕ, zero, suc, ◌+◌, ◌-◌, ◌*◌, ◌/◌, ◌%◌, ◌≤◌, ◌<◌, ltb, length}
use Rattle.std.proofs.Common.{ap, ◌∙◌, arith, length-append, ltb-true, ltb-false, lt-ltb, le-ltb}
use Rattle.spec_lists.specs.Text.{whole}
use Rattle.prog_text.specs.Text.{digits_in, decimal_digits}
use Rattle.prog_text.specs.Put.{Put}
use Rattle.prog_text.specs.laws.Put.{put_put, put_as}

-- any bound that is enough
digits_any : (f g n : ℕ) → n < f → n < g → digits_in f n ≡ digits_in g n
unfolding digits_in
digits_any zero g n h k = absurd (omega arith)
digits_any (suc f) zero n h k = absurd (omega arith)
digits_any (suc f) (suc g) n h k = go (ltb n 10) refl (digits_any f g (n / 10))
  where
    go :
        (t : Bool) → ltb n 10 ≡ t → (n / 10 < f → n / 10 < g → digits_in f (n / 10) ≡ digits_in g (n / 10))
        → cond t ((48 + n) ∷ []) (digits_in f (n / 10) ++ ((48 + n % 10) ∷ []))
        ≡ cond t ((48 + n) ∷ []) (digits_in g (n / 10) ++ ((48 + n % 10) ∷ []))
    go true e r = refl
    go false e r = let l = ltb-false n 10 e in ap (λ (s : List ℕ). s ++ ((48 + n % 10) ∷ [])) (r (omega arith) (omega arith))

pub one_digit : (n : ℕ) → n < 10 → decimal_digits n ≡ (48 + n) ∷ []
unfolding decimal_digits digits_in
one_digit n h = rw (lt-ltb n 10 h)

pub more_digits : (n : ℕ) → 10 ≤ n → decimal_digits n ≡ decimal_digits (n / 10) ++ ((48 + n % 10) ∷ [])
unfolding decimal_digits digits_in
more_digits n h =
    rw (le-ltb n 10 h)
    (ap (λ (s : List ℕ). s ++ ((48 + n % 10) ∷ [])) (digits_any n (suc (n / 10)) (n / 10) (omega arith) (omega arith)))

-- a last digit behind those of the tenth, or alone
pub put_digits :
    {b c d : List ℕ} {at r t : ℕ} (n : ℕ) → 10 ≤ n → Put (decimal_digits (n / 10)) b at c r → Put ((48 + n % 10) ∷ []) c r d t
    → Put (decimal_digits n) b at d t
put_digits n h p q = rw (more_digits n h) (put_put p q)

pub put_digit : {b d : List ℕ} {at t : ℕ} (n : ℕ) → n < 10 → Put ((48 + n % 10) ∷ []) b at d t → Put (decimal_digits n) b at d t
put_digit n h q = rw (one_digit n h) (put_as (ap (λ (k : ℕ). (48 + k) ∷ []) (let z : n ≡ n % 10 = omega arith in z)) q)

-- the digits spell the number
whole_last : (m d : ℕ) (s : List ℕ) → whole m (s ++ (d ∷ [])) ≡ whole m s * 10 + (d - 48)
whole_last m d [] = refl
whole_last m d (b ∷ s) = whole_last (m * 10 + (b - 48)) d s

spelled_in : (f n : ℕ) → n < f → whole 0 (digits_in f n) ≡ n
unfolding digits_in
spelled_in zero n h = absurd (omega arith)
spelled_in (suc f) n h = go (ltb n 10) refl (spelled_in f (n / 10))
  where
    go :
        (t : Bool) → ltb n 10 ≡ t → (n / 10 < f → whole 0 (digits_in f (n / 10)) ≡ n / 10)
        → whole 0 (cond t ((48 + n) ∷ []) (digits_in f (n / 10) ++ ((48 + n % 10) ∷ []))) ≡ n
    go true e r = omega arith
    go false e r =
        let l = ltb-false n 10 e in
        let i = r (omega arith) in
        whole_last 0 (48 + n % 10) (digits_in f (n / 10)) ∙ rw i (omega arith)

pub spelled : (n : ℕ) → whole 0 (decimal_digits n) ≡ n
unfolding decimal_digits
spelled n = spelled_in (suc n) n (omega arith)

-- ---- how many digits a number has

-- a one and n zeros
abbrev pub power_of_ten : ℕ → ℕ
power_of_ten zero = 1
power_of_ten (suc n) = power_of_ten n * 10

pub few_digits : (k n : ℕ) → n < power_of_ten (suc k) → length (decimal_digits n) ≤ suc k
few_digits zero n h = rw (one_digit n (omega arith)) (omega arith)
few_digits (suc k) n h = go (ltb n 10) refl (few_digits k (n / 10))
  where
    go :
        (t : Bool) → ltb n 10 ≡ t → (n / 10 < power_of_ten (suc k) → length (decimal_digits (n / 10)) ≤ suc k)
        → length (decimal_digits n) ≤ suc (suc k)
    go true e i = rw (one_digit n (ltb-true n 10 e)) (omega arith)
    go false e i =
        let z = length-append (decimal_digits (n / 10)) ((48 + n % 10) ∷ []) in
        let y = i (omega arith) in
        rw (more_digits n (ltb-false n 10 e)) (omega arith)
