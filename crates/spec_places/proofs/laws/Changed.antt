-- The changed places as bits: of a call that writes one place, and of one that goes over all.
use Rattle.std.specs.Prelude.{◌≡◌, refl, ◌≢◌, Bool, true, false, List, map, ℕ, zero, suc, ◌+◌, ◌-◌, ◌*◌, ◌%◌, ◌^◌, ◌≤◌, ◌<◌, length}
use Rattle.std.proofs.Common.{sym, ap, ap₂, ◌∙◌, zero-add, add-zero, pow-suc, zero-mul, arith, shl_exact, pow_mono}
use Rattle.spec_rule.specs.declared.Decision.{Decision}
use Rattle.spec_rule.specs.Kept.{bit}
use Rattle.spec_register.specs.Register.{most_clients}
use Rattle.spec_register.specs.Right.{bits, from, differ}
use Rattle.spec_register.proofs.laws.Changed.{differ_self}
use Rattle.spec_places.specs.Storage.{right_in}
use Rattle.spec_places.specs.Writing.{each}
use Rattle.spec_places.specs.Calls.{differing_in}
use Rattle.spec_places.proofs.laws.Records.{right_same}
use Rattle.spec_places.proofs.laws.Frame.{Local}
use Rattle.spec_places.proofs.laws.Each.{own_same, right_each}

pub differ_same : (d e : Decision) → d ≡ e → differ d e ≡ false
differ_same d e x = ap (differ d) (sym x) ∙ differ_self d

-- ---- bits

module _ (g : ℕ → Bool) where
  no_bit : (n m : ℕ) → ((j : ℕ) → n ≤ j → j < n + m → g j ≡ false) → bits (map g (from n m)) ≡ 0
  no_bit n zero h = refl
  no_bit n (suc m) h =
      rw (h n (omega arith) (omega arith), no_bit (suc n) m (λ j l u. h j (omega arith) (omega arith)))

  one_bit : (n m k : ℕ) → k < m → ((j : ℕ) → j < n + m → j ≢ n + k → g j ≡ false) → bits (map g (from n m)) ≡ bit (g (n + k)) * 2 ^ k
  one_bit n zero k l h = absurd (omega arith)
  one_bit n (suc m) zero l h =
      let rest = no_bit (suc n) m (λ j x y. h j (omega arith) (λ e. omega arith)) in
      rw (add-zero n) (omega (arith, rest))
  one_bit n (suc m) (suc k) l h =
      let rest = one_bit (suc n) m k (omega arith) (λ j x y. h j (omega arith) (λ e. y (omega arith))) in
      let here = ap bit (h n (omega arith) (λ e. omega arith)) in
      let z : n + suc k ≡ suc n + k = omega arith in
      rw (pow-suc 2 k, z) (omega (arith, here, rest))

-- ---- one place

-- rights that agree but at one place differ in its bit at most
pub changed_one :
    (b c : List ℕ) (p : ℕ) → p < most_clients → ((q : ℕ) → q < most_clients → q ≢ p → right_in b q ≡ right_in c q)
    → differing_in b c ≡ bit (differ (right_in b p) (right_in c p)) * 2 ^ p
changed_one b c p l h =
    let g : ℕ → Bool = λ q. differ (right_in b q) (right_in c q) in
    one_bit g 0 most_clients p l (λ j x y. differ_same (right_in b j) (right_in c j) (h j x (λ e. y (omega arith))))
    ∙ ap (λ (q : ℕ). bit (g q) * 2 ^ p) (zero-add p)

pub changed_by :
    {f : List ℕ → ℕ → List ℕ} → Local f → (b : List ℕ) (p : ℕ) → p < most_clients
    → differing_in b (f b p) ≡ bit (differ (right_in b p) (right_in (f b p) p)) * 2 ^ p
changed_by {f} k b p l =
    changed_one b (f b p) p l (λ q x n. right_same b (f b p) q (sym (k.other b p q n)) (sym (k.same_length b p)))

-- as code makes the bit: 1 << p, or 0
pub bit_on : (d : Bool) (p : ℕ) → p < 64 → d ≡ true → (1 * 2 ^ p) % 2 ^ 64 ≡ bit d * 2 ^ p
bit_on d p l e = shl_exact 1 p 64 (omega arith) (omega arith) ∙ ap (λ (x : Bool). bit x * 2 ^ p) (sym e)

pub bit_off : (d : Bool) (p : ℕ) → d ≡ false → 0 ≡ bit d * 2 ^ p
bit_off d p e = sym (ap (λ (x : Bool). bit x * 2 ^ p) e ∙ zero-mul (2 ^ p))

-- ---- all places

-- what a loop over the places makes of the bits m of those that are done, p still to do
abbrev pub changed_each : (List ℕ → ℕ → List ℕ) → ℕ → List ℕ → ℕ → ℕ
changed_each f zero b m = m
changed_each f (suc p) b m = changed_each f p (f b p) (bit (differ (right_in b p) (right_in (f b p) p)) + 2 * m)

-- the same, of tests
abbrev gathered : (ℕ → Bool) → ℕ → ℕ → ℕ
gathered g zero m = m
gathered g (suc p) m = gathered g p (bit (g p) + 2 * m)

gathered_all : (g : ℕ → Bool) (p k : ℕ) → gathered g p (bits (map g (from p k))) ≡ bits (map g (from 0 (p + k)))
gathered_all g zero k = ap (λ (n : ℕ). bits (map g (from 0 n))) (sym (zero-add k))
gathered_all g (suc p) k =
    let z : p + suc k ≡ suc p + k = omega arith in gathered_all g p (suc k) ∙ ap (λ (n : ℕ). bits (map g (from 0 n))) z

module _ {f : List ℕ → ℕ → List ℕ} (k : Local f) where
  as_gathered :
      (g : ℕ → Bool) (p : ℕ) (b : List ℕ) (m : ℕ) → ((q : ℕ) → q < p → differ (right_in b q) (right_in (f b q) q) ≡ g q)
      → changed_each f p b m ≡ gathered g p m
  as_gathered g zero b m h = refl
  as_gathered g (suc p) b m h =
      as_gathered g p (f b p) (bit (differ (right_in b p) (right_in (f b p) p)) + 2 * m) (λ q l. later q l ∙ h q (omega arith))
      ∙ ap (λ (x : Bool). gathered g p (bit x + 2 * m)) (h p (omega arith))
    where
      later : (q : ℕ) → q < p → differ (right_in (f b p) q) (right_in (f (f b p) q) q) ≡ differ (right_in b q) (right_in (f b q) q)
      later q l =
          let e = k.other b p q (λ x. omega arith) in
          ap₂
          differ
          (right_same (f b p) b q e (k.same_length b p))
          (right_same (f (f b p) q) (f b q) q
          (own_same k (f b p) b q e)
          (k.same_length (f b p) q ∙ k.same_length b p ∙ sym (k.same_length b q)))

  changed_upto : (n : ℕ) (b : List ℕ) → changed_each f n b 0 ≡ bits (map (λ q. differ (right_in b q) (right_in (each f n b) q)) (from 0 n))
  changed_upto n b =
      let g : ℕ → Bool = λ q. differ (right_in b q) (right_in (each f n b) q) in
      as_gathered g n b 0 (λ q l. ap (differ (right_in b q)) (sym (right_each k n q b l)))
      ∙ gathered_all g n 0
      ∙ ap (λ (m : ℕ). bits (map g (from 0 m))) (add-zero n)

  pub changed_all : (b : List ℕ) → changed_each f most_clients b 0 ≡ differing_in b (each f most_clients b)
  changed_all b = changed_upto most_clients b

-- ---- a loop over all places: it began at b₀, those from p on are done

pub record Visited (f : List ℕ → ℕ → List ℕ) (b₀ : List ℕ) (p : ℕ) (b : List ℕ) (m : ℕ) : Type 0 where
  pub left : each f p b ≡ each f most_clients b₀
  pub changed : changed_each f p b m ≡ changed_each f most_clients b₀ 0
  pub same_length : length b ≡ length b₀
  pub small : m < 2 ^ (64 - p)

pub visited_none : (f : List ℕ → ℕ → List ℕ) (b : List ℕ) → Visited f b most_clients b 0
visited_none f b = record { left = refl; changed = refl; same_length = refl; small = omega arith }

-- one more bit
pub bits_small : (d : Bool) (p m : ℕ) → p < 64 → m < 2 ^ (64 - suc p) → bit d + 2 * m < 2 ^ (64 - p)
bits_small d p m l h =
    let z : 64 - p ≡ suc (64 - suc p) = omega arith in rw (z, pow-suc 2 (64 - suc p)) (omega (arith, bit_small d))
  where
    bit_small : (x : Bool) → bit x ≤ 1
    bit_small true = omega arith
    bit_small false = omega arith

-- the bits fit 64
pub bits_fit : (n p : ℕ) → n < 2 ^ (64 - p) → n < 2 ^ 64
bits_fit n p h = let l : 64 - p ≤ 64 = omega arith in omega (arith, pow_mono l)

module _ {f : List ℕ → ℕ → List ℕ} (k : Local f) {b₀ : List ℕ} where
  more :
      {p : ℕ} {b : List ℕ} {m : ℕ} → p < most_clients → Visited f b₀ (suc p) b m
      → Visited f b₀ p (f b p) (bit (differ (right_in b p) (right_in (f b p) p)) + 2 * m)
  more {p} {b} {m} l v =
      record {
        left = v.left;
        changed = v.changed;
        same_length = k.same_length b p ∙ v.same_length;
        small = bits_small (differ (right_in b p) (right_in (f b p) p)) p m l v.small;
      }

  -- a turn of the loop
  pub visited_more :
      {p q m n : ℕ} {b c : List ℕ} → q ≡ suc p → p < most_clients → c ≡ f b p → n ≡ bit (differ (right_in b p) (right_in c p)) + 2 * m
      → Visited f b₀ q b m → Visited f b₀ p c n
  visited_more {p} {m = m} {b = b} e l x y v =
      let z = y ∙ ap (λ (d : List ℕ). bit (differ (right_in b p) (right_in d p)) + 2 * m) x in rw (x, z) (more l (rw e at v))

  pub visited_all : {b : List ℕ} {m : ℕ} → Visited f b₀ 0 b m → (b ≡ each f most_clients b₀) × (m ≡ differing_in b₀ b)
  visited_all {b} {m} v = (v.left, v.changed ∙ changed_all k b₀ ∙ ap (differing_in b₀) (sym v.left))
