-- Laws of the tokens of a role.
use Rattle.std.specs.Prelude.{◌≡◌, Bool, ◌||◌, eqb, ltb, length, get_or}
use Rattle.std.proofs.Math.Path.{refl, ap, ap₂}
use Rattle.std.proofs.Common.{◌∙◌, eq-eqb, ne_eqb, ltb-true, ltb-false}
use Rattle.std.proofs.Math.Bool.{true, false, cond, not}
use mathlib.Core.List.{List, [], ◌∷◌, map}
use Rattle.std.proofs.Math.Option.{none, some}
use Prim.Native.Nat.{ℕ, zero, suc, ◌+◌, ◌-◌, ◌≤◌, ◌<◌}
use Rattle.std.proofs.Math.Numerals.{add-one}
use native.Mathlib.Omega.{arith}
use Rattle.spec_lists.specs.Select.{select, prepend_if, keep_if, after, skip_if}
use Rattle.spec_grammar.specs.Codes.{role_number, same_role}
use Rattle.spec_grammar.specs.Sentence.{Tagged}
use Rattle.load_tokens.specs.Arrays.{Arrays, role_of_number, tagged_at, tagged_from}
use Rattle.spec_file.specs.Contents.{has_role, text, texts, until, head_of}
use Rattle.load_spans.specs.Roles.{RoleCode, SpansFit, tokens, tally, gap}

pub spans_fit_less : {s starts ends roles : List ℕ} {n m : ℕ} → m ≤ n → SpansFit s starts ends roles n → SpansFit s starts ends roles m
spans_fit_less {s} {starts} {ends} {roles} {n} {m} h l =
    record {
      few = omega (arith, l.few);
      short = l.short;
      has_starts = omega (arith, l.has_starts);
      has_ends = omega (arith, l.has_ends);
      has_roles = omega (arith, l.has_roles);
      in_order = λ i g. l.in_order i (omega arith);
      inside = λ i g. l.inside i (omega arith);
    }

-- ---- roles and their numbers

number_back : (q : ℕ) → q < 18 → role_number (role_of_number q) ≡ q
number_back zero h = refl
number_back (suc zero) h = refl
number_back (suc (suc zero)) h = refl
number_back (suc (suc (suc zero))) h = refl
number_back (suc (suc (suc (suc zero)))) h = refl
number_back (suc (suc (suc (suc (suc zero))))) h = refl
number_back (suc (suc (suc (suc (suc (suc zero)))))) h = refl
number_back (suc (suc (suc (suc (suc (suc (suc zero))))))) h = refl
number_back (suc (suc (suc (suc (suc (suc (suc (suc zero)))))))) h = refl
number_back (suc (suc (suc (suc (suc (suc (suc (suc (suc zero))))))))) h = refl
number_back (suc (suc (suc (suc (suc (suc (suc (suc (suc (suc zero)))))))))) h = refl
number_back (suc (suc (suc (suc (suc (suc (suc (suc (suc (suc (suc zero))))))))))) h = refl
number_back (suc (suc (suc (suc (suc (suc (suc (suc (suc (suc (suc (suc zero)))))))))))) h = refl
number_back (suc (suc (suc (suc (suc (suc (suc (suc (suc (suc (suc (suc (suc zero))))))))))))) h = refl
number_back (suc (suc (suc (suc (suc (suc (suc (suc (suc (suc (suc (suc (suc (suc zero)))))))))))))) h = refl
number_back (suc (suc (suc (suc (suc (suc (suc (suc (suc (suc (suc (suc (suc (suc (suc zero))))))))))))))) h = refl
number_back (suc (suc (suc (suc (suc (suc (suc (suc (suc (suc (suc (suc (suc (suc (suc (suc zero)))))))))))))))) h = refl
number_back (suc (suc (suc (suc (suc (suc (suc (suc (suc (suc (suc (suc (suc (suc (suc (suc (suc zero))))))))))))))))) h = refl
number_back (suc (suc (suc (suc (suc (suc (suc (suc (suc (suc (suc (suc (suc (suc (suc (suc (suc (suc q)))))))))))))))))) h = absurd (omega arith)

number_beyond : (q : ℕ) → 18 ≤ q → role_number (role_of_number q) ≡ 0
number_beyond q h =
    let e : q ≡ suc (suc (suc (suc (suc (suc (suc (suc (suc (suc (suc (suc (suc (suc (suc (suc (suc (suc (q - 18)))))))))))))))))) = omega arith in
    ap (λ (k : ℕ). role_number (role_of_number k)) e

-- roles are the same if their numbers are
pub same_number : (r q : ℕ) → RoleCode q → same_role (role_of_number r) (role_of_number q) ≡ eqb r q
same_number r q t = rw (number_back q t.known) (go (ltb r 18) refl)
  where
    go : (b : Bool) → ltb r 18 ≡ b → eqb (role_number (role_of_number r)) q ≡ eqb r q
    go true e = rw (number_back r (ltb-true r 18 e))
    go false e = rw (number_beyond r (ltb-false r 18 e), ne_eqb 0 q (λ h. omega (arith, t.some)), ne_eqb r q (λ h. omega (arith, t.known, ltb-false r 18 e)))

module _ (s : List ℕ) (a : Arrays) (roles : List ℕ) where
  pub tokens_none : (i to : ℕ) → to ≤ i → (tokens s a roles) i to ≡ []
  unfolding tagged_from
  tokens_none i to h = let e : to - i ≡ 0 = omega arith in rw e

  pub tokens_step : (i to : ℕ) → i < to → (tokens s a roles) i to ≡ tagged_at s a roles i ∷ (tokens s a roles) (i + 1) to
  unfolding tagged_from
  tokens_step i to h = let e : to - i ≡ suc (to - (i + 1)) = omega arith in rw (e, add-one i)

pub tally_none : (m : ℕ) (roles : List ℕ) (i to : ℕ) → to ≤ i → tally m roles i (to - i) ≡ 0
unfolding tally
tally_none m roles i to h = let e : to - i ≡ 0 = omega arith in rw e

pub tally_step :
    (m : ℕ) (roles : List ℕ) (i to : ℕ) → i < to → tally m roles i (to - i) ≡ cond (eqb (get_or roles i 0) m) 1 0 + tally m roles (i + 1) (to - (i + 1))
unfolding tally
tally_step m roles i to h = let e : to - i ≡ suc (to - (i + 1)) = omega arith in rw (e, add-one i)

pub tally_hit : (m : ℕ) (roles : List ℕ) (i to : ℕ) → i < to → get_or roles i 0 ≡ m → tally m roles i (to - i) ≡ 1 + tally m roles (i + 1) (to - (i + 1))
tally_hit m roles i to h e = tally_step m roles i to h ∙ rw (eq-eqb (get_or roles i 0) m e)

pub tally_miss : (m : ℕ) (roles : List ℕ) (i to : ℕ) → i < to → (get_or roles i 0 ≡ m → ⊥) → tally m roles i (to - i) ≡ tally m roles (i + 1) (to - (i + 1))
tally_miss m roles i to h e = tally_step m roles i to h ∙ rw (ne_eqb (get_or roles i 0) m e) (omega arith)

pub tally_bound : (m : ℕ) (roles : List ℕ) (i k : ℕ) → tally m roles i k ≤ k
unfolding tally
tally_bound m roles i zero = omega arith
tally_bound m roles i (suc k) = go (eqb (get_or roles i 0) m) (tally_bound m roles (suc i) k)
  where
    go : (b : Bool) → tally m roles (suc i) k ≤ k → cond b 1 0 + tally m roles (suc i) k ≤ suc k
    go true h = omega arith
    go false h = omega arith

pub tally_is :
    (s : List ℕ) (a : Arrays) (roles : List ℕ) (m i k : ℕ) → RoleCode m → length (texts (role_of_number m) (tagged_from s a roles i k)) ≡ tally m roles i k
unfolding tally tagged_from
tally_is s a roles m i zero t = refl
tally_is s a roles m i (suc k) t = rw (same_number (get_or roles i 0) m t) (go (eqb (get_or roles i 0) m) (tally_is s a roles m (suc i) k t))
  where
    go :
        (b : Bool) → length (texts (role_of_number m) (tagged_from s a roles (suc i) k)) ≡ tally m roles (suc i) k
        → length (map text (prepend_if b (tagged_at s a roles i) (select (has_role (role_of_number m)) (tagged_from s a roles (suc i) k))))
        ≡ cond b 1 0 + tally m roles (suc i) k
    go true e = omega (arith, e)
    go false e = omega (arith, e)

pub gap_none : (a b : ℕ) (roles : List ℕ) (i to : ℕ) → to ≤ i → gap a b roles i (to - i) ≡ 0
unfolding gap
gap_none a b roles i to h = let e : to - i ≡ 0 = omega arith in rw e

gap_step :
    (a b : ℕ) (roles : List ℕ) (i to : ℕ) → i < to
    → gap a b roles i (to - i) ≡ cond (eqb (get_or roles i 0) a || eqb (get_or roles i 0) b) 0 (suc (gap a b roles (i + 1) (to - (i + 1))))
unfolding gap
gap_step a b roles i to h = let e : to - i ≡ suc (to - (i + 1)) = omega arith in rw (e, add-one i)

pub gap_first : (a b : ℕ) (roles : List ℕ) (i to : ℕ) → i < to → get_or roles i 0 ≡ a → gap a b roles i (to - i) ≡ 0
gap_first a b roles i to h e = gap_step a b roles i to h ∙ rw (eq-eqb (get_or roles i 0) a e)

pub gap_second : (a b : ℕ) (roles : List ℕ) (i to : ℕ) → i < to → get_or roles i 0 ≡ b → gap a b roles i (to - i) ≡ 0
gap_second a b roles i to h e = gap_step a b roles i to h ∙ rw (eq-eqb (get_or roles i 0) b e) (go (eqb (get_or roles i 0) a))
  where
    go : (t : Bool) → cond (t || true) 0 (suc (gap a b roles (i + 1) (to - (i + 1)))) ≡ 0
    go true = refl
    go false = refl

pub gap_on :
    (a b : ℕ) (roles : List ℕ) (i to : ℕ) → i < to → (get_or roles i 0 ≡ a → ⊥) → (get_or roles i 0 ≡ b → ⊥)
    → gap a b roles i (to - i) ≡ suc (gap a b roles (i + 1) (to - (i + 1)))
gap_on a b roles i to h e g = gap_step a b roles i to h ∙ rw (ne_eqb (get_or roles i 0) a e, ne_eqb (get_or roles i 0) b g)

pub gap_bound : (a b : ℕ) (roles : List ℕ) (i k : ℕ) → gap a b roles i k ≤ k
unfolding gap
gap_bound a b roles i zero = omega arith
gap_bound a b roles i (suc k) = go (eqb (get_or roles i 0) a || eqb (get_or roles i 0) b) (gap_bound a b roles (suc i) k)
  where
    go : (t : Bool) → gap a b roles (suc i) k ≤ k → cond t 0 (suc (gap a b roles (suc i) k)) ≤ suc k
    go true h = omega arith
    go false h = omega arith

module _ (s : List ℕ) (ar : Arrays) (roles : List ℕ) where
  -- the tokens before the first that says a or b
  pub until_two :
      (a b i k : ℕ) → RoleCode a → RoleCode b
      → until (role_of_number a) (until (role_of_number b) (tagged_from s ar roles i k)) ≡ tagged_from s ar roles i (gap a b roles i k)
  unfolding gap tagged_from
  until_two a b i zero t u = refl
  until_two a b i (suc k) t u = rw (same_number (get_or roles i 0) b u) (go (eqb (get_or roles i 0) b) (eqb (get_or roles i 0) a) refl (until_two a b (suc i) k t u))
    where
      rest : List Tagged
      rest = until (role_of_number b) (tagged_from s ar roles (suc i) k)

      go :
          (g h : Bool) → eqb (get_or roles i 0) a ≡ h
          → until (role_of_number a) (until (role_of_number b) (tagged_from s ar roles (suc i) k)) ≡ tagged_from s ar roles (suc i) (gap a b roles (suc i) k)
          → until (role_of_number a) (keep_if (not g) (tagged_at s ar roles i) (until (role_of_number b) (tagged_from s ar roles (suc i) k)))
          ≡ tagged_from s ar roles i (cond (eqb (get_or roles i 0) a || g) 0 (suc (gap a b roles (suc i) k)))
      go true true e ih = rw e
      go true false e ih = rw e
      go false true e ih = rw (same_number (get_or roles i 0) a t, e)
      go false false e ih = rw (same_number (get_or roles i 0) a t, e) (ap (λ (l : List Tagged). tagged_at s ar roles i ∷ l) ih)

  pub until_one : (q i k : ℕ) → RoleCode q → until (role_of_number q) (tagged_from s ar roles i k) ≡ tagged_from s ar roles i (gap q q roles i k)
  unfolding gap tagged_from
  until_one q i zero t = refl
  until_one q i (suc k) t = rw (same_number (get_or roles i 0) q t) (go (eqb (get_or roles i 0) q) (until_one q (suc i) k t))
    where
      go :
          (g : Bool) → until (role_of_number q) (tagged_from s ar roles (suc i) k) ≡ tagged_from s ar roles (suc i) (gap q q roles (suc i) k)
          → keep_if (not g) (tagged_at s ar roles i) (until (role_of_number q) (tagged_from s ar roles (suc i) k))
          ≡ tagged_from s ar roles i (cond (g || g) 0 (suc (gap q q roles (suc i) k)))
      go true ih = refl
      go false ih = ap (λ (l : List Tagged). tagged_at s ar roles i ∷ l) ih

  -- and those from it on
  pub after_one :
      (q i k : ℕ) → RoleCode q
      → after (λ x. not (has_role (role_of_number q) x)) (tagged_from s ar roles i k) ≡ tagged_from s ar roles (i + gap q q roles i k) (k - gap q q roles i k)
  unfolding gap tagged_from
  after_one q i zero t = refl
  after_one q i (suc k) t = rw (same_number (get_or roles i 0) q t) (go (eqb (get_or roles i 0) q) (after_one q (suc i) k t))
    where
      go :
          (g : Bool)
          → after (λ x. not (has_role (role_of_number q) x)) (tagged_from s ar roles (suc i) k)
          ≡ tagged_from s ar roles (suc i + gap q q roles (suc i) k) (k - gap q q roles (suc i) k)
          → skip_if
          (not g)
          (after (λ x. not (has_role (role_of_number q) x)) (tagged_from s ar roles (suc i) k))
          (tagged_at s ar roles i ∷ tagged_from s ar roles (suc i) k)
          ≡ tagged_from s ar roles (i + cond (g || g) 0 (suc (gap q q roles (suc i) k))) (suc k - cond (g || g) 0 (suc (gap q q roles (suc i) k)))
      go true ih =
          let e : i ≡ i + 0 = omega arith in
          let n : suc k ≡ suc k - 0 = omega arith in
          ap₂ (λ (j l : ℕ). tagged_from s ar roles j l) e n
      go false ih =
          let d : ℕ = gap q q roles (suc i) k in
          let e : suc i + d ≡ i + suc d = omega arith in
          let n : k - d ≡ suc k - suc d = omega arith in
          ih ∙ ap₂ (λ (j l : ℕ). tagged_from s ar roles j l) e n

  -- the first text of a role
  pub first_some :
      (m i k : ℕ) → RoleCode m → gap m m roles i k < k
      → head_of (texts (role_of_number m) (tagged_from s ar roles i k)) ≡ some (text (tagged_at s ar roles (i + gap m m roles i k)))
  unfolding gap tagged_from
  first_some m i zero t h = absurd (omega arith)
  first_some m i (suc k) t h = rw (same_number (get_or roles i 0) m t) (go (eqb (get_or roles i 0) m) h (first_some m (suc i) k t))
    where
      go :
          (g : Bool) → cond (g || g) 0 (suc (gap m m roles (suc i) k)) < suc k
          →
          (gap m m roles (suc i) k < k
          → head_of (texts (role_of_number m) (tagged_from s ar roles (suc i) k)) ≡ some (text (tagged_at s ar roles (suc i + gap m m roles (suc i) k))))
          → head_of (map text (prepend_if g (tagged_at s ar roles i) (select (has_role (role_of_number m)) (tagged_from s ar roles (suc i) k))))
          ≡ some (text (tagged_at s ar roles (i + cond (g || g) 0 (suc (gap m m roles (suc i) k)))))
      go true l ih = let e : i ≡ i + 0 = omega arith in ap (λ (j : ℕ). some (text (tagged_at s ar roles j))) e
      go false l ih =
          let e : suc i + gap m m roles (suc i) k ≡ i + suc (gap m m roles (suc i) k) = omega arith in
          ih (omega arith) ∙ ap (λ (j : ℕ). some (text (tagged_at s ar roles j))) e

  pub first_none : (m i k : ℕ) → RoleCode m → k ≤ gap m m roles i k → head_of (texts (role_of_number m) (tagged_from s ar roles i k)) ≡ none
  unfolding gap tagged_from
  first_none m i zero t h = refl
  first_none m i (suc k) t h = rw (same_number (get_or roles i 0) m t) (go (eqb (get_or roles i 0) m) h (first_none m (suc i) k t))
    where
      go :
          (g : Bool) → suc k ≤ cond (g || g) 0 (suc (gap m m roles (suc i) k))
          → (k ≤ gap m m roles (suc i) k → head_of (texts (role_of_number m) (tagged_from s ar roles (suc i) k)) ≡ none)
          → head_of (map text (prepend_if g (tagged_at s ar roles i) (select (has_role (role_of_number m)) (tagged_from s ar roles (suc i) k)))) ≡ none
      go true l ih = absurd (omega arith)
      go false l ih = ih (omega arith)
