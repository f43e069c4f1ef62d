-- Laws of listing the tokens of a role.
use Rattle.std.specs.Prelude.{◌≡◌, refl, Bool, true, false, cond, List, [], ◌∷◌, ◌++◌, map, ℕ, zero, suc, ◌+◌, ◌-◌, ◌≤◌, ◌<◌, eqb, length, get_or, set, take, drop}
use Rattle.std.proofs.Common.{ap, ◌∙◌, add-one, arith, length-set, eq-eqb, ne_eqb}
use Rattle.std.proofs.lemmas.List.Edits.{sets, sets-eq}
use Rattle.std.proofs.Math.Seq.{length-sets, take-append_seam}
use Rattle.spec_lists.specs.Every.{Every, nil, cons}
use Rattle.spec_lists.proofs.laws.Every.{every_implies}
use Rattle.spec_lists.specs.Select.{select, prepend_if}
use Rattle.load_tokens.specs.Arrays.{role_of_number, tagged_at, tagged_from}
use Rattle.spec_file.specs.Contents.{has_role, text, texts}
use Rattle.load_spans.specs.Roles.{RoleCode, arrays, tally}
use Rattle.load_spans.specs.laws.Roles.{same_number, tally_bound}
use Rattle.load_spans.specs.Spans.{text_at, AmongTokens}
use Rattle.load_spans.specs.Listed.{indices, Listed, ToList}

pub indices_none : (q : ℕ) (roles : List ℕ) (i to : ℕ) → to ≤ i → indices q roles i (to - i) ≡ []
unfolding indices
indices_none q roles i to h = let e : to - i ≡ 0 = omega arith in rw e

indices_step :
    (q : ℕ) (roles : List ℕ) (i to : ℕ) → i < to
    → indices q roles i (to - i) ≡ cond (eqb (get_or roles i 0) q) (i ∷ indices q roles (i + 1) (to - (i + 1))) (indices q roles (i + 1) (to - (i + 1)))
unfolding indices
indices_step q roles i to h = let e : to - i ≡ suc (to - (i + 1)) = omega arith in rw (e, add-one i)

pub indices_hit : (q : ℕ) (roles : List ℕ) (i to : ℕ) → i < to → get_or roles i 0 ≡ q → indices q roles i (to - i) ≡ i ∷ indices q roles (i + 1) (to - (i + 1))
indices_hit q roles i to h e = indices_step q roles i to h ∙ rw (eq-eqb (get_or roles i 0) q e)

pub indices_miss : (q : ℕ) (roles : List ℕ) (i to : ℕ) → i < to → (get_or roles i 0 ≡ q → ⊥) → indices q roles i (to - i) ≡ indices q roles (i + 1) (to - (i + 1))
indices_miss q roles i to h e = indices_step q roles i to h ∙ rw (ne_eqb (get_or roles i 0) q e)

pub indices_length : (q : ℕ) (roles : List ℕ) (i k : ℕ) → length (indices q roles i k) ≡ tally q roles i k
unfolding indices tally
indices_length q roles i zero = refl
indices_length q roles i (suc k) = go (eqb (get_or roles i 0) q) (indices_length q roles (suc i) k)
  where
    go :
        (b : Bool) → length (indices q roles (suc i) k) ≡ tally q roles (suc i) k
        → length (cond b (i ∷ indices q roles (suc i) k) (indices q roles (suc i) k)) ≡ cond b 1 0 + tally q roles (suc i) k
    go true e = omega arith
    go false e = omega arith

-- each is one of the k tokens
pub indices_below : (q : ℕ) (roles : List ℕ) (i k : ℕ) → Every (λ j. j < i + k) (indices q roles i k)
unfolding indices
indices_below q roles i zero = nil
indices_below q roles i (suc k) = go (eqb (get_or roles i 0) q) (every_implies (λ j h. omega arith) (indices_below q roles (suc i) k))
  where
    go :
        (b : Bool) → Every (λ j. j < i + suc k) (indices q roles (suc i) k)
        → Every (λ j. j < i + suc k) (cond b (i ∷ indices q roles (suc i) k) (indices q roles (suc i) k))
    go true e = cons {x = i} (omega arith) e
    go false e = e

-- their texts are those of the role
pub indices_texts :
    (s starts ends roles : List ℕ) (q i k : ℕ) → RoleCode q
    → map (text_at s starts ends) (indices q roles i k) ≡ texts (role_of_number q) (tagged_from s (arrays starts ends) roles i k)
unfolding indices tagged_from
indices_texts s starts ends roles q i zero t = refl
indices_texts s starts ends roles q i (suc k) t =
    rw (same_number (get_or roles i 0) q t) (go (eqb (get_or roles i 0) q) (indices_texts s starts ends roles q (suc i) k t))
  where
    go :
        (b : Bool) → map (text_at s starts ends) (indices q roles (suc i) k) ≡ texts (role_of_number q) (tagged_from s (arrays starts ends) roles (suc i) k)
        → map (text_at s starts ends) (cond b (i ∷ indices q roles (suc i) k) (indices q roles (suc i) k))
        ≡ map text
        (prepend_if b (tagged_at s (arrays starts ends) roles i) (select (has_role (role_of_number q)) (tagged_from s (arrays starts ends) roles (suc i) k)))
    go true e = ap (λ (l : List (List ℕ)). text_at s starts ends i ∷ l) e
    go false e = e

module _ (q : ℕ) (roles : List ℕ) (names : List ℕ) (n : ℕ) where
  pub list_first : (ToList q roles names n) names 0 0
  list_first =
      let z : n - 0 ≡ n = omega arith in
      record {
        bytes = ap (λ (m : ℕ). sets names 0 (indices q roles 0 m)) z;
        count = omega (arith, ap (λ (m : ℕ). length (indices q roles 0 m)) z);
        few = omega arith;
        long = refl;
      }

  pub list_hit :
      {b c : List ℕ} {k i : ℕ} → i < n → get_or roles i 0 ≡ q → c ≡ set b k i → (ToList q roles names n) b k i → (ToList q roles names n) c (k + 1) (i + 1)
  list_hit {b} {c} {k} {i} h e g l =
      let s = indices_hit q roles i n h e in
      record {
        bytes = rw (g, add-one k) (rw s at l.bytes);
        count = omega (arith, l.count, ap length s);
        few = omega (arith, l.few);
        long = rw g (length-set b k i ∙ l.long);
      }

  pub list_miss : {b : List ℕ} {k i : ℕ} → i < n → (get_or roles i 0 ≡ q → ⊥) → (ToList q roles names n) b k i → (ToList q roles names n) b k (i + 1)
  list_miss {b} {k} {i} h e l =
      let s = indices_miss q roles i n h e in
      record { bytes = rw s at l.bytes; count = omega (arith, l.count, ap length s); few = omega (arith, l.few); long = l.long }

  pub list_end : {b : List ℕ} {k i : ℕ} → n ≤ i → (ToList q roles names n) b k i → Listed names b q roles n k
  list_end {b} {k} {i} h l =
      let s = indices_none q roles i n h in
      record { listed = rw s at l.bytes; count = omega (arith, l.count, ap length s) }

-- the tokens listed, if there was room for all
pub listed_names :
    {names list : List ℕ} {q : ℕ} {roles : List ℕ} {n r : ℕ} → Listed names list q roles n r → r ≤ length names → take r list ≡ indices q roles 0 n
listed_names {names} {list} {q} {roles} {n} {r} l h =
    let e = sets-eq (indices q roles 0 n) names 0 (omega (arith, l.count)) in
    ap (take r) (l.listed ∙ e)
    ∙ ap (λ (k : ℕ). take k (indices q roles 0 n ++ drop (0 + length (indices q roles 0 n)) names)) l.count
    ∙ take-append_seam (indices q roles 0 n) (drop (0 + length (indices q roles 0 n)) names)

-- they are no more than all tokens
pub listed_few : {names list : List ℕ} {q : ℕ} {roles : List ℕ} {n r : ℕ} → Listed names list q roles n r → r ≤ n
listed_few {q = q} {roles = roles} {n = n} l = omega (arith, l.count, indices_length q roles 0 n, tally_bound q roles 0 n)

-- each is one of the tokens
pub listed_among : (q : ℕ) (roles : List ℕ) (n : ℕ) → AmongTokens (indices q roles 0 n) n
listed_among q roles n k h = go (indices q roles 0 n) k h (indices_below q roles 0 n)
  where
    go : (xs : List ℕ) (k : ℕ) → k < length xs → Every (λ j. j < 0 + n) xs → get_or xs k 0 < n
    go [] k h e = absurd (omega arith)
    go (x ∷ xs) zero h (cons p e) = omega arith
    go (x ∷ xs) (suc k) h (cons p e) = go xs k (omega arith) e

pub listed_length : {names list : List ℕ} {q : ℕ} {roles : List ℕ} {n r : ℕ} → Listed names list q roles n r → length list ≡ length names
listed_length {names} {q = q} {roles = roles} {n = n} l = ap length l.listed ∙ length-sets names 0 (indices q roles 0 n)
