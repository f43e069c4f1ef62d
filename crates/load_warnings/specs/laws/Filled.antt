-- The loop that writes the warnings.
use Rattle.std.specs.Prelude.{◌≡◌, refl, Bool, true, false, cond, List, [], ◌∷◌, ℕ, suc, ◌+◌, ◌-◌, ◌≤◌, ◌<◌, leb, length, get_or, set, drop}
use Rattle.std.proofs.Common.{sym, ap, ◌∙◌, arith, length-set, leb-true, leb-false, le-leb}
use Rattle.std.proofs.Math.Option.{Option, none, some}
use Rattle.std.proofs.lemmas.List.Edits.{sets}
use Rattle.std.proofs.Math.Seq.{set_out, drop-nil}
use Rattle.std.proofs.lemmas.Bool.{lt-leb}
use Rattle.spec_grammar.specs.Sentence.{Tagged}
use Rattle.load_tokens.specs.Arrays.{tagged_at, tagged_from}
use Rattle.spec_file.specs.declared.Warning.{Warning}
use Rattle.spec_file.specs.declared.Warning.TheVariants.{UnknownItem, UnknownPredicate}
use Rattle.spec_file.specs.Contents.{place}
use Rattle.spec_file.specs.Warning.{Warned, warning_of, with_place, warnings}
use Rattle.load_spans.specs.Roles.{tokens}
use Rattle.load_spans.specs.laws.Roles.{tokens_none, tokens_step}
use Rattle.load_warnings.specs.laws.Code.{code_is}
use Rattle.load_warnings.specs.Code.{code_of, code}
use Rattle.load_warnings.specs.Filled.{plain, warnings_of, numbers_of, places_of, wrote, Filled}

-- ---- values written from the skip-th on

pub length_wrote : {A : Type 0} (skip k : ℕ) (b : List A) (v : A) → length (wrote skip k b v) ≡ length b
length_wrote skip k b v = go (leb skip k)
  where
    go : (t : Bool) → length (cond t (set b (k - skip) v) b) ≡ length b
    go true = length-set b (k - skip) v
    go false = refl

-- it is written; there is no room; it is skipped
module _ {A : Type 0} (skip k : ℕ) (b : List A) (v : A) where
  pub wrote_in : skip ≤ k → wrote skip k b v ≡ set b (k - skip) v
  wrote_in h = rw (le-leb skip k h)

  pub wrote_out : skip ≤ k → length b ≤ k - skip → wrote skip k b v ≡ b
  wrote_out h l = rw (le-leb skip k h) (set_out b (k - skip) v l)

  pub wrote_skip : k < skip → wrote skip k b v ≡ b
  wrote_skip h = rw (lt-leb skip k h)

-- what the values vs come to, the first of which is the k-th
abbrev pub written : ℕ → ℕ → List ℕ → List ℕ → List ℕ
written skip k b vs = sets b (k - skip) (drop (skip - k) vs)

pub written_more : (skip k : ℕ) (b : List ℕ) (v : ℕ) (vs : List ℕ) → written skip k b (v ∷ vs) ≡ written skip (k + 1) (wrote skip k b v) vs
written_more skip k b v vs = go (leb skip k) refl
  where
    go : (t : Bool) → leb skip k ≡ t → written skip k b (v ∷ vs) ≡ written skip (k + 1) (cond t (set b (k - skip) v) b) vs
    go true e =
        let h : skip ≤ k = leb-true skip k e in
        let z : skip - k ≡ 0 = omega arith in
        let y : skip - (k + 1) ≡ 0 = omega arith in
        let x : k + 1 - skip ≡ suc (k - skip) = omega arith in
        rw (z, y, x)
    go false e =
        let h : k < skip = leb-false skip k e in
        let z : skip - k ≡ suc (skip - (k + 1)) = omega arith in
        let y : k - skip ≡ 0 = omega arith in
        let x : k + 1 - skip ≡ 0 = omega arith in
        rw (z, y, x)

pub written_none : (skip k : ℕ) (b : List ℕ) → written skip k b [] ≡ b
written_none skip k b = rw (drop-nil {A = ℕ} (skip - k))

-- ---- one warning, or none

module _ (x : Tagged) (ws : List Warned) where
  more_numbers : (o : Option Warning) → (code_of o ≡ 0 → ⊥) → numbers_of (with_place o x ws) ≡ code_of o ∷ numbers_of ws
  more_numbers none h = absurd (h refl)
  more_numbers (some w) h = refl

  more_places : (o : Option Warning) → (code_of o ≡ 0 → ⊥) → places_of (with_place o x ws) ≡ place x ∷ places_of ws
  more_places none h = absurd (h refl)
  more_places (some w) h = refl

  more_length : (o : Option Warning) → (code_of o ≡ 0 → ⊥) → length (with_place o x ws) ≡ suc (length ws)
  more_length none h = absurd (h refl)
  more_length (some w) h = refl

  no_more : (o : Option Warning) → code_of o ≡ 0 → with_place o x ws ≡ ws
  no_more none h = refl
  no_more (some UnknownItem) h = absurd (omega (arith, h))
  no_more (some UnknownPredicate) h = absurd (omega (arith, h))

-- ---- the loop over the tokens

module _ (places roles : List ℕ) (n : ℕ) where
  abbrev here : ℕ → Tagged
  here i = tagged_at [] (plain places) roles i

  -- the number of the i-th token's warning
  abbrev pub code_here : ℕ → ℕ
  code_here i = code_of (warning_of (here i))

  -- the warnings from the i-th token on
  abbrev pub rest : ℕ → List Warned
  rest i = warnings (tokens [] (plain places) roles i n)

  pub code_here_is : (w i : ℕ) → w ≡ code (get_or roles i 0) → w ≡ code_here i
  code_here_is w i e = e ∙ sym (code_is [] (plain places) roles i)

  rest_step : (i : ℕ) → i < n → rest i ≡ with_place (warning_of (here i)) (here i) (rest (i + 1))
  rest_step i h = ap warnings (tokens_step [] (plain places) roles i n h)

  rest_first : rest 0 ≡ warnings_of places roles n
  rest_first = let z : n - 0 ≡ n = omega arith in ap (λ (m : ℕ). warnings (tagged_from [] (plain places) roles 0 m)) z

  rest_none : (i : ℕ) → n ≤ i → rest i ≡ []
  rest_none i h = ap warnings (tokens_none [] (plain places) roles i n h)

-- with k warnings written before the i-th token, what is left to write comes to all
module _ (places roles : List ℕ) (n skip : ℕ) (numbers₀ at₀ : List ℕ) where
  pub record Filling (b a : List ℕ) (k i : ℕ) : Type 0 where
    pub few : k ≤ i
    pub count : k + length (rest places roles n i) ≡ length (warnings_of places roles n)
    pub numbers_left :
        written skip k b (numbers_of (rest places roles n i))
        ≡ sets numbers₀ 0 (drop skip (numbers_of (warnings_of places roles n)))
    pub places_left :
        written skip k a (places_of (rest places roles n i)) ≡ sets at₀ 0 (drop skip (places_of (warnings_of places roles n)))
    pub long_numbers : length b ≡ length numbers₀
    pub long_at : length a ≡ length at₀

  pub fill_first : Filling numbers₀ at₀ 0 0
  fill_first =
      let z : 0 - skip ≡ 0 = omega arith in
      let y : skip - 0 ≡ skip = omega arith in
      let f = rest_first places roles n in
      record {
        few = omega arith;
        count = omega (arith, ap length f);
        numbers_left = rw (z, y, f);
        places_left = rw (z, y, f);
        long_numbers = refl;
        long_at = refl;
      }

  pub fill_warning :
      {b c a d : List ℕ} {k i w : ℕ} → i < n → w ≡ code_here places roles n i → (w ≡ 0 → ⊥)
      → c ≡ wrote skip k b w → d ≡ wrote skip k a (get_or places i 0) → Filling b a k i → Filling c d (k + 1) (i + 1)
  fill_warning {b} {c} {a} {d} {k} {i} {w} h e g p q l =
      let f = rest_step places roles n i h in
      let o = warning_of (here places roles n i) in
      let x = here places roles n i in
      let r = rest places roles n (i + 1) in
      let g' : code_of o ≡ 0 → ⊥ = λ z. g (e ∙ z) in
      record {
        few = omega (arith, l.few);
        count = omega (arith, l.count, ap length f, more_length x r o g');
        numbers_left =
            rw (p, e)
            (sym (written_more skip k b (code_of o) (numbers_of r)) ∙ ap (written skip k b) (sym (ap numbers_of f ∙ more_numbers x r o g')) ∙ l.numbers_left);
        places_left =
            rw q
            (sym (written_more skip k a (get_or places i 0) (places_of r))
            ∙ ap (written skip k a) (sym (ap places_of f ∙ more_places x r o g'))
            ∙ l.places_left);
        long_numbers = rw p (length_wrote skip k b w ∙ l.long_numbers);
        long_at = rw q (length_wrote skip k a (get_or places i 0) ∙ l.long_at);
      }

  pub fill_none : {b a : List ℕ} {k i w : ℕ} → i < n → w ≡ code_here places roles n i → w ≡ 0 → Filling b a k i → Filling b a k (i + 1)
  fill_none {b} {a} {k} {i} {w} h e g l =
      let x = here places roles n i in
      let o = warning_of x in
      let f = rest_step places roles n i h ∙ no_more x (rest places roles n (i + 1)) o (sym e ∙ g) in
      record {
        few = omega (arith, l.few);
        count = omega (arith, l.count, ap length f);
        numbers_left = ap (λ (ws : List Warned). written skip k b (numbers_of ws)) (sym f) ∙ l.numbers_left;
        places_left = ap (λ (ws : List Warned). written skip k a (places_of ws)) (sym f) ∙ l.places_left;
        long_numbers = l.long_numbers;
        long_at = l.long_at;
      }

  pub fill_end : {b a : List ℕ} {k i : ℕ} → n ≤ i → Filling b a k i → Filled (warnings_of places roles n) skip numbers₀ b at₀ a k
  fill_end {b} {a} {k} {i} h l =
      let f = rest_none places roles n i h in
      record {
        count = omega (arith, l.count, ap length f);
        numbers = sym (ap (λ (ws : List Warned). written skip k b (numbers_of ws)) f ∙ written_none skip k b) ∙ l.numbers_left;
        places = sym (ap (λ (ws : List Warned). written skip k a (places_of ws)) f ∙ written_none skip k a) ∙ l.places_left;
      }
