-- Laws of the search for the first token to which a cause applies.
use Rattle.std.specs.Prelude.{◌≡◌, Bool, true, false, cond, ◌||◌, List, [], ◌∷◌, ℕ, zero, suc, ◌+◌, ◌≤◌, ◌<◌, min, ltb, length, get_or}
use Rattle.std.proofs.Math.Path.{refl, ap}
use Rattle.std.proofs.Common.{sym, ◌∙◌, add-one, arith, lt-ltb, le-ltb}
use Rattle.std.proofs.Math.Option.{Option, some}
use Rattle.spec_lists.specs.Select.{first, first_if}
use Rattle.spec_grammar.specs.Sentence.{Tagged}
use Rattle.load_tokens.specs.Arrays.{Arrays, tagged_at, tagged_from}
use Rattle.spec_file.specs.declared.Refusal.{Refusal}
use Rattle.spec_file.specs.Refusal.{Context, contexts_after}
use Rattle.spec_file.specs.Load.{RefusalAt, or_else}
use Rattle.load_spans.specs.laws.Roles.{tokens_none, tokens_step}
use Rattle.load_spans.specs.laws.Position.{ltb_suc}
use Rattle.load_spans.specs.Seek.{seek, earlier, context_at, left}

module _ (s : List ℕ) (a : Arrays) (roles : List ℕ) where
  pub earlier_none : (earlier s a roles) 0 ≡ []
  unfolding earlier
  earlier_none = refl

  pub earlier_step : (i : ℕ) → (earlier s a roles) (i + 1) ≡ tagged_at s a roles i ∷ (earlier s a roles) i
  unfolding earlier
  earlier_step i = ap (earlier s a roles) (add-one i)

  module _ (p : Context → Bool) (n i : ℕ) where
    left_step : i < n → (left s a roles) p n i ≡ cond (p ((context_at s a roles) n i)) 0 (suc ((left s a roles) p n (i + 1)))
    unfolding seek
    left_step h = ap (seek p ((earlier s a roles) i)) (tokens_step s a roles i n h) ∙ rw (earlier_step i)

    -- it is here; it is not here; there is no more
    pub left_here : i < n → p ((context_at s a roles) n i) ≡ true → (left s a roles) p n i ≡ 0
    left_here h e = left_step h ∙ rw e

    pub left_on : i < n → p ((context_at s a roles) n i) ≡ false → (left s a roles) p n i ≡ suc ((left s a roles) p n (i + 1))
    left_on h e = left_step h ∙ rw e

    pub left_none : n ≤ i → (left s a roles) p n i ≡ 0
    unfolding seek
    left_none h = ap (seek p ((earlier s a roles) i)) (tokens_none s a roles i n h)

-- what is sought is found at no more than the length
pub seek_bound : (p : Context → Bool) (b xs : List Tagged) → seek p b xs ≤ length xs
unfolding seek
seek_bound p b [] = omega arith
seek_bound p b (x ∷ xs) = go (p (record { backwards = b; here = x; onwards = xs })) (seek_bound p (x ∷ b) xs)
  where
    go : (t : Bool) → seek p (x ∷ b) xs ≤ length xs → cond t 0 (suc (seek p (x ∷ b) xs)) ≤ suc (length xs)
    go true h = omega arith
    go false h = omega arith

pub seek_same : (p q : Context → Bool) → ((c : Context) → p c ≡ q c) → (b xs : List Tagged) → seek p b xs ≡ seek q b xs
unfolding seek
seek_same p q e b [] = refl
seek_same p q e b (x ∷ xs) = rw (e (record { backwards = b; here = x; onwards = xs }), seek_same p q e (x ∷ b) xs)

-- the first of either is the first of the two firsts
pub seek_either : (p q : Context → Bool) (b xs : List Tagged) → seek (λ c. p c || q c) b xs ≡ min (seek p b xs) (seek q b xs)
unfolding seek
seek_either p q b [] = omega arith
seek_either p q b (x ∷ xs) =
    go (p (record { backwards = b; here = x; onwards = xs })) (q (record { backwards = b; here = x; onwards = xs })) (seek_either p q (x ∷ b) xs)
  where
    go :
        (t u : Bool) → seek (λ c. p c || q c) (x ∷ b) xs ≡ min (seek p (x ∷ b) xs) (seek q (x ∷ b) xs)
        → cond (t || u) 0 (suc (seek (λ c. p c || q c) (x ∷ b) xs)) ≡ min (cond t 0 (suc (seek p (x ∷ b) xs))) (cond u 0 (suc (seek q (x ∷ b) xs)))
    go true true e = omega arith
    go true false e = omega arith
    go false true e = omega arith
    go false false e = omega arith

-- a refusal for a cause: at the token sought, or for a later cause if there is none
pub refused_at :
    (s : List ℕ) (a : Arrays) (roles : List ℕ) (k : Refusal) (p : Context → Bool) (o : Option RefusalAt) (b : List Tagged) (i m : ℕ)
    → or_else k (first p (contexts_after b (tagged_from s a roles i m))) o
    ≡ cond
    (ltb (seek p b (tagged_from s a roles i m)) m)
    (some (record { refusal = k; place = get_or a.places (i + seek p b (tagged_from s a roles i m)) 0 })) o
unfolding seek tagged_from
refused_at s a roles k p o b i zero =
    sym (ap (λ (t : Bool). cond t (some (record { refusal = k; place = get_or a.places (i + 0) 0 })) o) (le-ltb 0 0 (omega arith)))
refused_at s a roles k p o b i (suc m) = go (p here) (refused_at s a roles k p o (tagged_at s a roles i ∷ b) (suc i) m)
  where
    here : Context
    here = record { backwards = b; here = tagged_at s a roles i; onwards = tagged_from s a roles (suc i) m }

    d : ℕ
    d = seek p (tagged_at s a roles i ∷ b) (tagged_from s a roles (suc i) m)

    go :
        (t : Bool)
        → or_else k (first p (contexts_after (tagged_at s a roles i ∷ b) (tagged_from s a roles (suc i) m))) o
        ≡ cond
        (ltb (seek p (tagged_at s a roles i ∷ b) (tagged_from s a roles (suc i) m)) m)
        (some (record { refusal = k; place = get_or a.places (suc i + seek p (tagged_at s a roles i ∷ b) (tagged_from s a roles (suc i) m)) 0 })) o
        → or_else k
        (first_if t
        (record { backwards = b; here = tagged_at s a roles i; onwards = tagged_from s a roles (suc i) m })
        (first p (contexts_after (tagged_at s a roles i ∷ b) (tagged_from s a roles (suc i) m)))) o
        ≡ cond
        (ltb (cond t 0 (suc (seek p (tagged_at s a roles i ∷ b) (tagged_from s a roles (suc i) m)))) (suc m))
        (some (record { refusal = k; place = get_or a.places (i + cond t 0 (suc (seek p (tagged_at s a roles i ∷ b) (tagged_from s a roles (suc i) m)))) 0 }))
        o
    go true e = let z : i ≡ i + 0 = omega arith in rw (lt-ltb 0 (suc m) (omega arith), ← z)
    go false e = let z : suc i + d ≡ i + suc d = omega arith in e ∙ rw (z, ltb_suc d m)
