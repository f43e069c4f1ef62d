-- The longest run at a place of a text, as a loop finds it.
use Rattle.std.specs.Prelude.{◌≡◌, refl, Bool, true, false, List, [], ◌∷◌, ℕ, suc, ◌+◌, ◌-◌, ◌≤◌, ◌<◌, length, get_or, take, drop}
use Rattle.std.proofs.Common.{sym, ap, ◌∙◌, arith, add-one, drop_of_length-le, length-drop, drop-cons, drop-drop}
use Rattle.spec_lists.specs.Select.{run, keep_if, after, skip_if}
use Rattle.spec_token.specs.Spans.{Span}

module _ {A : Type 0} (p : A → Bool) where
  pub run_take : (s : List A) → run p s ≡ take (length (run p s)) s
  run_take [] = refl
  run_take (x ∷ s) = go (p x) (run_take s)
    where
      go : (b : Bool) → run p s ≡ take (length (run p s)) s → keep_if b x (run p s) ≡ take (length (keep_if b x (run p s))) (x ∷ s)
      go true e = ap (λ (l : List A). x ∷ l) e
      go false e = refl

  pub after_drop : (s : List A) → after p s ≡ drop (length (run p s)) s
  after_drop [] = refl
  after_drop (x ∷ s) = go (p x) (after_drop s)
    where
      go : (b : Bool) → after p s ≡ drop (length (run p s)) s → skip_if b (after p s) (x ∷ s) ≡ drop (length (keep_if b x (run p s))) (x ∷ s)
      go true e = e
      go false e = refl

  pub run_short : (s : List A) → length (run p s) ≤ length s
  run_short [] = omega arith
  run_short (x ∷ s) = go (p x) (run_short s)
    where
      go : (b : Bool) → length (run p s) ≤ length s → length (keep_if b x (run p s)) ≤ suc (length s)
      go true e = omega arith
      go false e = omega arith

  pub after_short : (s : List A) → length (after p s) ≤ length s
  after_short s = rw (after_drop s, length-drop) (omega arith)

module _ (p : ℕ → Bool) where
  -- what a loop that stands at i has found of the run
  pub record Passing (s : List ℕ) (from i : ℕ) : Type 0 where
    pub low : from ≤ i
    pub high : i ≤ length s
    pub same : from + length (run p (drop from s)) ≡ i + length (run p (drop i s))

  run_on : (b : ℕ) (l : List ℕ) → p b ≡ true → length (run p (b ∷ l)) ≡ suc (length (run p l))
  run_on b l e = rw e

  run_off : (b : ℕ) (l : List ℕ) → p b ≡ false → length (run p (b ∷ l)) ≡ 0
  run_off b l e = rw e

  pub start : {s : List ℕ} {from : ℕ} → from ≤ length s → Passing s from from
  start h = record { low = omega arith; high = h; same = refl }

  pub turn : {s : List ℕ} {from i : ℕ} → Passing s from i → i < length s → p (get_or s i 0) ≡ true → Passing s from (i + 1)
  turn {s} {from} {i} g h e =
      let z : length (run p (drop i s)) ≡ suc (length (run p (drop (i + 1) s))) = rw (drop-cons s i 0 h, add-one i) (run_on (get_or s i 0) (drop (suc i) s) e) in
      let same = g.same in
      record { low = omega (arith, g.low); high = omega arith; same = omega arith }

  pub stopped : {s : List ℕ} {from i : ℕ} → Passing s from i → i < length s → p (get_or s i 0) ≡ false → Span p s from i
  stopped {s} {from} {i} g h e =
      let z : length (run p (drop i s)) ≡ 0 = rw (drop-cons s i 0 h) (run_off (get_or s i 0) (drop (suc i) s) e) in
      record { ends = omega (arith, g.same); onward = g.low; within = omega arith }

  pub ended : {s : List ℕ} {from i : ℕ} → Passing s from i → length s ≤ i → Span p s from i
  ended {s} {from} {i} g h =
      let z : length (run p (drop i s)) ≡ 0 = rw (drop_of_length-le s h) in
      record { ends = omega (arith, g.same); onward = g.low; within = g.high }

module _ {p : ℕ → Bool} {s : List ℕ} {from to : ℕ} (d : Span p s from to) where
  pub span_length : to - from ≡ length (run p (drop from s))
  span_length = omega (arith, d.ends)

  pub span_run : run p (drop from s) ≡ take (to - from) (drop from s)
  span_run = rw (span_length) (run_take p (drop from s))

  pub span_after : after p (drop from s) ≡ drop to s
  span_after = after_drop p (drop from s) ∙ drop-drop (length (run p (drop from s))) from s ∙ ap (λ (n : ℕ). drop n s) (sym d.ends)

-- a run that its first byte belongs to is not empty
pub span_more : {p : ℕ → Bool} {s : List ℕ} {from to : ℕ} → Span p s from to → from < length s → p (get_or s from 0) ≡ true → from < to
span_more {p} {s} {from} {to} d h e =
    let z : length (run p (drop from s)) ≡ suc (length (run p (drop (suc from) s))) =
    rw (drop-cons s from 0 h) (run_on p (get_or s from 0) (drop (suc from) s) e) in
    omega (arith, d.ends)
