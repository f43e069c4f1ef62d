-- A text is spelled by some tokens, or it is bad at some place; never both, and in one way. Places ascend, and a token's text stands at its place.
use Rattle.std.specs.Prelude.{◌≡◌, refl, List, [], ◌∷◌, ◌++◌, map, ◌⊎◌, ℕ, ◌+◌, ◌≤◌, ◌<◌, length}
use Rattle.std.proofs.Common.{sym, ap, ◌∙◌, append_assoc, inl, inr, arith, length-append}
use Prim.Native.Char.{code}
use Rattle.spec_lists.specs.Every.{Every, nil, cons}
use Rattle.spec_lists.proofs.laws.Every.{every_implies, every_map}
use Rattle.spec_token.specs.Token as spelled
use Rattle.spec_token.specs.Token.{Token, Tokens, tokens, bad, then, Spells, end, gap, bare_newline, Spelled, BadAt}
use Rattle.spec_token.specs.Place.{Ascending, no_more, less, StandsIn, bare, in_quotes}
use Rattle.spec_token.specs.Scanner.{scanned}
use Rattle.spec_token.proofs.laws.Agreement.{scanned_sound, scanned_complete}

-- ---- one spelling

pub one_spelling : {s : List ℕ} {o u : Tokens} → Spells 0 s o → Spells 0 s u → o ≡ u
one_spelling {s} {o} {u} d e = sym (scanned_complete s o d) ∙ scanned_complete s u e

pub spelled_or_bad : (s : List ℕ) → ((ts : List Token) × Spelled s ts) ⊎ ((p : ℕ) × BadAt s p)
spelled_or_bad s = go (scanned s) refl
  where
    go : (o : Tokens) → scanned s ≡ o → ((ts : List Token) × Spelled s ts) ⊎ ((p : ℕ) × BadAt s p)
    go (tokens ts) e = inl (ts, scanned_sound s (tokens ts) e)
    go (bad p) e = inr (p, scanned_sound s (bad p) e)

pub never_spelled_and_bad : {s : List ℕ} {ts : List Token} {p : ℕ} → Spelled s ts → BadAt s p → ⊥
never_spelled_and_bad d e = let h = one_spelling d e in let z : ◌≡◌ {A = ℕ} 0 1 = cc in omega arith

-- ---- places

-- the tokens of a text s from the place p on
data Placed (s : List ℕ) (p : ℕ) : Tokens → Type 0 where
  placed : {ts : List Token} → Every (StandsIn s) ts → Every (λ t. p ≤ t.place) ts → Ascending (map (λ t. t.place) ts) → Placed s p (tokens ts)
  no_tokens : {q : ℕ} → q < length s → Placed s p (bad q)

placed_less : {s : List ℕ} {p q : ℕ} {o : Tokens} → p ≤ q → Placed s q o → Placed s p o
placed_less l (placed a b c) = placed a (every_implies (λ t k. omega arith) b) c
placed_less l (no_tokens {q = r} k) = no_tokens {q = r} k

placed_then : {s : List ℕ} {p q : ℕ} (t : Token) {o : Tokens} → t.place ≡ p → p < q → StandsIn s t → Placed s q o → Placed s p (then t o)
placed_then {p = p} t e l i (placed {ts = ts} a b c) =
    let here : p ≤ t.place = omega arith in
    let later : Every (λ u. p ≤ u.place) ts = every_implies (λ u k. omega arith) b in
    let behind : Every (λ u. t.place < u.place) ts = every_implies (λ u k. omega arith) b in
    placed (cons i a) (cons here later) (less (every_map (λ u. u.place) behind) c)
placed_then t e l i (no_tokens {q = r} k) = no_tokens {q = r} k

-- where the text s stands in a whole one, behind p bytes
record Behind (whole : List ℕ) (p : ℕ) (s : List ℕ) : Type 0 where
  before : List ℕ
  parts : whole ≡ before ++ s
  count : length before ≡ p

further : {whole s : List ℕ} {p q : ℕ} (x r : List ℕ) → Behind whole p s → s ≡ x ++ r → q ≡ p + length x → Behind whole q r
further x r b e l =
    record {
      before = b.before ++ x;
      parts = b.parts ∙ rw (e, append_assoc b.before x r);
      count = length-append b.before x ∙ rw (b.count, l);
    }

reaches : {whole s : List ℕ} {p : ℕ} → Behind whole p s → length whole ≡ p + length s
reaches {s = s} b = ap length b.parts ∙ (length-append b.before s ∙ ap (λ n. n + length s) b.count)

places : {whole : List ℕ} {p : ℕ} {s : List ℕ} {o : Tokens} → Spells p s o → Behind whole p s → Placed whole p o
places end b = placed nil nil no_more
places {p = p} (gap {b = c} {s = s} h d) b = placed_less (omega arith) (places d (further (c ∷ []) s b refl (omega arith)))
places {p = p} (spelled.comment {s = s} {w = w} {r = r} h d) b =
    placed_less (omega arith) (places d (further (code "#" ∷ w) r b (ap (λ (l : List ℕ). code "#" ∷ l) h.parts) (omega arith)))
places {p = p} (spelled.word {b = c} {s = s} {w = w} {r = r} {k = k} h f d) b =
    placed_then
    (record { kind = k; place = p; text = c ∷ w }) refl (omega arith)
    (bare b.before r (b.parts ∙ rw h.parts) b.count)
    (places d (further (c ∷ w) r b h.parts refl))
places {p = p} (spelled.quoted {s = s} {w = w} {r = r} e t d) b =
    let m = length-append w (code "\"" ∷ []) in
    placed_then (record { kind = _; place = p; text = w }) refl (omega arith)
    (in_quotes b.before r (b.parts ∙ rw e) b.count refl)
    (places d
    (further
    (code "\"" ∷ (w ++ (code "\"" ∷ []))) r b
    (ap (λ (l : List ℕ). code "\"" ∷ l) (e ∙ rw append_assoc))
    (omega arith)))
places {p = p} (spelled.alone {b = c} {s = s} {k = k} h d) b =
    placed_then
    (record { kind = k; place = p; text = c ∷ [] }) refl (omega arith)
    (bare b.before s b.parts b.count)
    (places d (further (c ∷ []) s b refl refl))
places {p = p} (bare_newline {s = s} {w = w} r e t) b =
    let m = length-append w (code "\n" ∷ r) in
    let l = ap length e in
    no_tokens {q = p + 1 + length w} (omega (arith, reaches b))
places {p = p} (spelled.unclosed u) b = no_tokens {q = p} (omega (arith, reaches b))
places {p = p} (spelled.other h) b = no_tokens {q = p} (omega (arith, reaches b))

at_start : (s : List ℕ) → Behind s 0 s
at_start s = record { before = []; parts = refl; count = refl }

stand : {s : List ℕ} {ts : List Token} → Placed s 0 (tokens ts) → Every (StandsIn s) ts
stand (placed a b c) = a

ascend : {s : List ℕ} {ts : List Token} → Placed s 0 (tokens ts) → Ascending (map (λ t. t.place) ts)
ascend (placed a b c) = c

bad_placed : {s : List ℕ} {p : ℕ} → Placed s 0 (bad p) → p < length s
bad_placed (no_tokens h) = h

pub bad_within : {s : List ℕ} {p : ℕ} → BadAt s p → p < length s
bad_within {s} d = bad_placed (places d (at_start s))

pub tokens_stand : {s : List ℕ} {ts : List Token} → Spelled s ts → Every (StandsIn s) ts
tokens_stand {s} d = stand (places d (at_start s))

pub places_ascend : {s : List ℕ} {ts : List Token} → Spelled s ts → Ascending (map (λ t. t.place) ts)
places_ascend {s} d = ascend (places d (at_start s))
