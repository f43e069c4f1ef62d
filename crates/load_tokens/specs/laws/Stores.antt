-- Storing a token behind others.
use Rattle.std.specs.Prelude.{◌≡◌, refl, List, [], ◌∷◌, ◌++◌, ℕ, zero, suc, ◌+◌, ◌<◌, ◌≤◌, get_or, set}
use Rattle.std.proofs.Common.{◌∙◌, arith, get_or-set_same, get_or-set_other}
use Rattle.load_tokens.specs.Arrays.{kind_of_number, between, Arrays, token_at, tokens_from}
use Rattle.load_tokens.specs.laws.Arrays.{tokens_more}
use Rattle.load_tokens.specs.Stores.{Numbers, stored, Room, Good}

module _ {m : ℕ} (a : Arrays) (n : ℕ) (t : Numbers) (r : Room m a) (h : n < m) where
  same_kind : get_or (set a.kinds n t.kind) n 0 ≡ t.kind
  same_kind = get_or-set_same a.kinds n t.kind 0 (omega (arith, r.kinds))

  same_place : get_or (set a.places n t.place) n 0 ≡ t.place
  same_place = get_or-set_same a.places n t.place 0 (omega (arith, r.places))

  same_start : get_or (set a.starts n t.start) n 0 ≡ t.start
  same_start = get_or-set_same a.starts n t.start 0 (omega (arith, r.starts))

  same_end : get_or (set a.ends n t.end) n 0 ≡ t.end
  same_end = get_or-set_same a.ends n t.end 0 (omega (arith, r.ends))

  pub token_stored :
      (s : List ℕ) → token_at s (stored a n t) n ≡ record { kind = kind_of_number t.kind; place = t.place; text = between s t.start t.end }
  token_stored s = rw (same_kind, same_place, same_start, same_end)

  pub good_stored : t.kind < 14 → t.place < m → t.start ≤ t.end → t.end ≤ m → Good m (stored a n t) n
  good_stored k p s e =
      record {
        kind = omega (arith, same_kind);
        place = omega (arith, same_place);
        start = omega (arith, same_start, same_end);
        end = omega (arith, same_end);
      }

-- a store changes no other token
module _ (a : Arrays) (n : ℕ) (t : Numbers) (i : ℕ) (h : i < n) where
  apart : i ≡ n → ⊥
  apart e = omega arith

  other_kind : get_or (set a.kinds n t.kind) i 0 ≡ get_or a.kinds i 0
  other_kind = get_or-set_other a.kinds n i t.kind 0 apart

  other_place : get_or (set a.places n t.place) i 0 ≡ get_or a.places i 0
  other_place = get_or-set_other a.places n i t.place 0 apart

  other_start : get_or (set a.starts n t.start) i 0 ≡ get_or a.starts i 0
  other_start = get_or-set_other a.starts n i t.start 0 apart

  other_end : get_or (set a.ends n t.end) i 0 ≡ get_or a.ends i 0
  other_end = get_or-set_other a.ends n i t.end 0 apart

  token_other : (s : List ℕ) → token_at s (stored a n t) i ≡ token_at s a i
  token_other s = rw (other_kind, other_place, other_start, other_end)

  pub good_other : {m : ℕ} → Good m a i → Good m (stored a n t) i
  good_other g =
      record {
        kind = omega (arith, g.kind, other_kind);
        place = omega (arith, g.place, other_place);
        start = omega (arith, g.start, other_start, other_end);
        end = omega (arith, g.end, other_end);
      }

-- arrays whose tokens agree
pub tokens_agree :
    (s : List ℕ) (a b : Arrays) (i n : ℕ) → ((k : ℕ) → k < i + n → token_at s a k ≡ token_at s b k) → tokens_from s a i n ≡ tokens_from s b i n
unfolding tokens_from
tokens_agree s a b i zero f = refl
tokens_agree s a b i (suc n) f =
    let e = f i (omega arith) in
    let l = tokens_agree s a b (suc i) n (λ k h. f k (omega arith)) in
    rw (e, l)

-- one token more behind n tokens
pub tokens_stored :
    {m : ℕ} (s : List ℕ) (a : Arrays) (n : ℕ) (t : Numbers) → Room m a → n < m
    → tokens_from s (stored a n t) 0 (n + 1)
    ≡ tokens_from s a 0 n ++ ((record { kind = kind_of_number t.kind; place = t.place; text = between s t.start t.end }) ∷ [])
tokens_stored s a n t r h =
    let z : 0 + n ≡ n = omega arith in
    tokens_more s (stored a n t) 0 n
    ∙ rw (z, token_stored a n t r h s, tokens_agree s (stored a n t) a 0 n (λ k l. token_other a n t k (omega arith) s))
