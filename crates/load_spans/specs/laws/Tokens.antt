-- The tokens of a file with its text: where they lie, and the first to which something applies.
use Rattle.std.specs.Prelude.{◌≡◌, refl, Bool, true, false, cond, not, List, [], ◌∷◌, map, ℕ, zero, suc, ◌+◌, ◌≤◌, ◌<◌, min, ltb, length, Option, Some, None, is_some, MatchOption, position}
use Rattle.std.specs.List.{position_or_len}
use Rattle.std.proofs.Common.{ap, ◌∙◌, sym, add-one, arith, lt-ltb, le-ltb, ltb-true, ltb-false}
use Rattle.spec_lists.specs.Text.{same}
use Rattle.spec_file.specs.Refusal.{Context}
use Rattle.load_tokens.specs.declared.Token.{Token}
use Rattle.load_tokens.specs.Views.{starts, ends, roles}
use Rattle.load_tokens.specs.laws.Views.{many_starts, many_ends, many_roles}
use Rattle.load_spans.specs.declared.Tokens.{Tokens}
use Rattle.load_spans.specs.Roles.{SpansFit}
use Rattle.load_spans.specs.Position as texts
use Rattle.load_spans.specs.Search.{below, earlier_of, first_in, applies_in, Found}
use Rattle.load_spans.specs.laws.Search.{Searched, search_first, search_found, search_on, search_none}

-- the texts of tokens lie in the text that they are with
pub fits : (t : Tokens) → SpansFit t.text.now (starts t.list.now) (ends t.list.now) (roles t.list.now) (length t.list.now)
fits t =
    record {
      few = t.few;
      short = t.short;
      has_starts = omega (arith, many_starts t.list.now);
      has_ends = omega (arith, many_ends t.list.now);
      has_roles = omega (arith, many_roles t.list.now);
      in_order = t.in_order;
      inside = t.inside;
    }

-- ---- the first token to which p applies

module _ (p : Context → Bool) (s : List ℕ) (ts : List Token) where
  -- it applies to none of the first k
  searched : (k : ℕ) → k ≤ length ts → ((i : ℕ) → i < k → applies_in p s ts i ≡ false) → Searched p s (starts ts) (ends ts) (roles ts) (length ts) k
  searched zero h e = search_first p s (starts ts) (ends ts) (roles ts) (length ts)
  searched (suc k) h e =
      rw (← add-one k) (search_on (searched k (omega arith) (λ i l. e i (omega arith))) (omega arith) (e k (omega arith)))

  pub found_at : (k : ℕ) → Searched p s (starts ts) (ends ts) (roles ts) (length ts) k → k < length ts → applies_in p s ts k ≡ true → Some k ≡ first_in p s ts
  found_at k q h e = rw (← search_found q h e, lt-ltb k (length ts) h)

  pub found_none : (k : ℕ) → Searched p s (starts ts) (ends ts) (roles ts) (length ts) k → length ts ≤ k → None ≡ first_in p s ts
  found_none k q h = rw (← search_none q h, le-ltb k (length ts) h)

  -- what a search by a test found, where the test tells to which p applies
  pub sought :
      {R : ℕ → Bool → Type 0} {r : Option ℕ} → Found R (length ts) r → ((i : ℕ) (b : Bool) → i < length ts → R i b → b ≡ applies_in p s ts i)
      → r ≡ first_in p s ts
  sought {R} {r} h tells = go r h.is
    where
      go :
          (o : Option ℕ) → MatchOption o ((i : ℕ) → i < length ts → R i false) (λ k. (k < length ts) × R k true × ((i : ℕ) → i < k → R i false))
          → o ≡ first_in p s ts
      go None h = found_none (length ts) (searched (length ts) (omega arith) (λ i l. sym (tells i false l (h i l)))) (omega arith)
      go (Some k) h =
          found_at k (searched k (omega (arith, h.0)) (λ i l. sym (tells i false (omega (arith, h.0)) (h.2 i l)))) h.0 (sym (tells k true h.0 h.1))

-- ---- where the first of some names stands that is a text

spot_len : (f : ℕ → List ℕ) (t names : List ℕ) → position_or_len (λ name. same (f name) t) names ≡ texts.position t (map f names)
spot_len f t [] = refl
spot_len f t (n ∷ ns) = go (same (f n) t) (spot_len f t ns)
  where
    go :
        (b : Bool) → position_or_len (λ name. same (f name) t) ns ≡ texts.position t (map f ns)
        → cond (not b) (1 + position_or_len (λ name. same (f name) t) ns) 0 ≡ cond b 0 (suc (texts.position t (map f ns)))
    go true e = refl
    go false e = omega (arith, e)

pub spot : (f : ℕ → List ℕ) (t names : List ℕ) → position (λ name. same (f name) t) names ≡ below (length names) (texts.position t (map f names))
spot f t names = rw (spot_len f t names)

-- ---- a number, if it is below n

-- the least of two is the least of those below n
pub below_min : (n i j : ℕ) → earlier_of (below n i) (below n j) ≡ below n (min i j)
below_min n i j = go (ltb i n) (ltb j n) refl refl
  where
    go : (b c : Bool) → ltb i n ≡ b → ltb j n ≡ c → earlier_of (below n i) (below n j) ≡ below n (min i j)
    go true true e f = rw (e, f, lt-ltb (min i j) n (omega (arith, ltb-true i n e)))
    go true false e f = let g : min i j ≡ i = omega (arith, ltb-true i n e, ltb-false j n f) in rw (g, e, f)
    go false true e f = let g : min i j ≡ j = omega (arith, ltb-false i n e, ltb-true j n f) in rw (g, e, f)
    go false false e f = rw (e, f, le-ltb (min i j) n (omega (arith, ltb-false i n e, ltb-false j n f)))

-- ---- whether some name is a text

below_is_some : (n j : ℕ) → is_some (below n j) ≡ ltb j n
below_is_some n j = go (ltb j n)
  where
    go : (b : Bool) → is_some (cond b (Some j) None) ≡ b
    go true = refl
    go false = refl

module _ (f : ℕ → List ℕ) (t names : List ℕ) {o : Option ℕ} (e : o ≡ position (λ name. same (f name) t) names) where
  spot_before : is_some o ≡ ltb (texts.position t (map f names)) (length names)
  spot_before = ap is_some (e ∙ spot f t names) ∙ below_is_some (length names) (texts.position t (map f names))

  pub spot_some : is_some o ≡ true → texts.position t (map f names) < length names
  spot_some h = ltb-true _ _ (sym spot_before ∙ h)

  pub spot_missing : is_some o ≡ false → length names ≤ texts.position t (map f names)
  spot_missing h = ltb-false _ _ (sym spot_before ∙ h)
