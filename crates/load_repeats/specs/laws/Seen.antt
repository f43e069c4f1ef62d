-- The search for a token given again: the tokens seen so far.
use Rattle.std.specs.Prelude.{Some, None, ◌≡◌, refl, Bool, true, false, not, ◌&&◌, ◌||◌, List, [], ◌∷◌, map, ℕ, ◌+◌, ◌≤◌, ◌<◌, eqb, ltb, length, get_or, set, take}
use Rattle.std.proofs.Common.{sym, ap, ap₂, ◌∙◌, add-one, arith, length-set, take-suc-set, get_or-set_same, get_or-set_other, length-take-le, eq-eqb, ne_eqb, eqb-true, lt-ltb, le-ltb}
use Rattle.std.proofs.lemmas.List.{length-map}
use Rattle.std.proofs.lemmas.Bool.{eqb-false}
use Rattle.spec_lists.specs.Text.{same}
use Rattle.spec_lists.specs.Select.{any, keep_if}
use Rattle.spec_lists.proofs.laws.Any.{any_same, any_append}
use Rattle.spec_lists.proofs.laws.Joined.{map_append}
use Rattle.spec_grammar.specs.declared.Role.{Role}
use Rattle.spec_grammar.specs.Codes.{role_number}
use Rattle.spec_grammar.specs.Sentence.{Tagged}
use Rattle.load_tokens.specs.declared.Token.{Token}
use Rattle.load_tokens.specs.Arrays.{role_of_number, tagged_at}
use Rattle.load_tokens.specs.laws.Arrays.{role_back}
use Rattle.load_tokens.specs.Views.{starts, ends, roles}
use Rattle.spec_file.specs.Contents.{has_role, text}
use Rattle.spec_file.specs.Refusal.{Context}
use Rattle.load_spans.specs.Roles.{RoleCode, arrays}
use Rattle.load_spans.specs.Spans.{text_at}
use Rattle.load_spans.specs.Position.{position}
use Rattle.load_spans.specs.laws.Position.{spot_any}
use Rattle.load_spans.specs.Seek.{earlier}
use Rattle.load_spans.specs.laws.Seek.{earlier_none, earlier_step}
use Rattle.load_spans.specs.Search.{first_of, first_in, applies_at}
use Rattle.load_spans.specs.laws.Codes.{role_same, role_other}
use Rattle.load_spans.specs.laws.Search.{Searched, search_first, search_found, search_on, search_none}
use Rattle.load_repeats.specs.Repeated.{since, alike, repeated}

-- one of some texts is t
abbrev pub spelt : List ℕ → List (List ℕ) → Bool
spelt t ts = any (λ u. same u t) ts

or_last : (a b : Bool) → a || (b || false) ≡ b || a
or_last true true = refl
or_last true false = refl
or_last false true = refl
or_last false false = refl

eqb_swap : (a b : ℕ) → eqb a b ≡ eqb b a
eqb_swap a b = go (eqb a b) refl
  where
    go : (t : Bool) → eqb a b ≡ t → t ≡ eqb b a
    go true e = sym (eq-eqb b a (sym (eqb-true a b e)))
    go false e = sym (ne_eqb b a (λ h. eqb-false a b e (sym h)))

-- what is looked for, by the numbers of the roles
abbrev pub wanted : ℕ → ℕ → Context → Bool
wanted q stop = repeated (role_of_number q) (role_of_number stop)

-- the tokens in scope before the i-th
abbrev pub in_scope : List ℕ → List ℕ → List ℕ → List ℕ → ℕ → ℕ → ℕ → List Tagged
in_scope s starts ends roles q stop i = since (role_of_number q) (role_of_number stop) (earlier s (arrays starts ends) roles i)

-- one of some tokens has the role q and the text t
abbrev pub with_text : Role → List ℕ → List Tagged → Bool
with_text q t = any (λ x. has_role q x && same (text x) t)

-- one more token of the role, or one that ends the scope, or another
module _ (q stop : Role) (t : List ℕ) (x : Tagged) (xs : List Tagged) where
  more_hit : has_role q x ≡ true → with_text q t (since q stop (x ∷ xs)) ≡ same (text x) t || with_text q t (since q stop xs)
  more_hit e = ap (λ (b : Bool). with_text q t (keep_if (not (not b && has_role stop x)) x (since q stop xs))) e ∙ rw e

  more_end : has_role q x ≡ false → has_role stop x ≡ true → with_text q t (since q stop (x ∷ xs)) ≡ false
  more_end e d = rw (e, d)

  more_other : has_role q x ≡ false → has_role stop x ≡ false → with_text q t (since q stop (x ∷ xs)) ≡ with_text q t (since q stop xs)
  more_other e d =
      ap (λ (b : Bool). with_text q t (keep_if (not (not b && has_role stop x)) x (since q stop xs))) e
      ∙ ap (λ (b : Bool). with_text q t (keep_if (not b) x (since q stop xs))) d
      ∙ rw e

-- the first k of seen are the tokens of the role q in scope before the i-th
module _ (s starts ends roles : List ℕ) (q stop n long : ℕ) where
  pub record Seen (seen : List ℕ) (k i : ℕ) : Type 0 where
    pub few : k ≤ i
    pub room : length seen ≡ long
    pub below : (j : ℕ) → j < k → get_or seen j 0 < n
    pub texts : (t : List ℕ) → spelt t (map (text_at s starts ends) (take k seen)) ≡ with_text (role_of_number q) t (in_scope s starts ends roles q stop i)
    pub searched : Searched (wanted q stop) s starts ends roles n i

  pub seen_first : (seen : List ℕ) → length seen ≡ long → Seen seen 0 0
  seen_first seen h =
      record {
        few = omega arith;
        room = h;
        below = λ j l. absurd (omega arith);
        texts = λ t. rw (earlier_none s (arrays starts ends) roles);
        searched = search_first (wanted q stop) s starts ends roles n;
      }

  -- the tokens before the i-th
  abbrev before : ℕ → List Tagged
  before i = earlier s (arrays starts ends) roles i

  abbrev here : ℕ → Tagged
  here i = tagged_at s (arrays starts ends) roles i

  one_more :
      (i : ℕ) (t : List ℕ)
      → with_text (role_of_number q) t (in_scope s starts ends roles q stop (i + 1))
      ≡ with_text (role_of_number q) t (since (role_of_number q) (role_of_number stop) (here i ∷ before i))
  one_more i t =
      ap (λ (l : List Tagged). with_text (role_of_number q) t (since (role_of_number q) (role_of_number stop) l)) (earlier_step s (arrays starts ends) roles i)

  module _ (tq : RoleCode q) (ts : RoleCode stop) where
    says_q : (i : ℕ) → get_or roles i 0 ≡ q → has_role (role_of_number q) (tagged_at s (arrays starts ends) roles i) ≡ true
    says_q i e = role_same q tq e

    says_other : (i : ℕ) → (get_or roles i 0 ≡ q → ⊥) → has_role (role_of_number q) (tagged_at s (arrays starts ends) roles i) ≡ false
    says_other i e = role_other q tq e

    -- whether a token of the role is given again
    again_at :
        {seen : List ℕ} {k i : ℕ} → k ≤ length seen → get_or roles i 0 ≡ q → Seen seen k i
        → applies_at (wanted q stop) s starts ends roles n i ≡ ltb (position (text_at s starts ends i) (map (text_at s starts ends) (take k seen))) k
    again_at {seen} {k} {i} h e v =
        let z = spot_any (text_at s starts ends i) (map (text_at s starts ends) (take k seen)) in
        let m : length (map (text_at s starts ends) (take k seen)) ≡ k = length-map (take k seen) (text_at s starts ends) ∙ length-take-le k seen h in
        rw (says_q i e) (any_same _ _ one (in_scope s starts ends roles q stop i) ∙ sym (v.texts (text_at s starts ends i)) ∙ (rw m at z))
      where
        one : (x : Tagged) → alike (tagged_at s (arrays starts ends) roles i) x ≡ has_role (role_of_number q) x && same (text x) (text_at s starts ends i)
        one x =
            ap (λ (r : ℕ). eqb (role_number (role_of_number r)) (role_number x.role) && same (text x) (text_at s starts ends i)) e
            ∙ ap (λ (b : Bool). b && same (text x) (text_at s starts ends i)) (eqb_swap (role_number (role_of_number q)) (role_number x.role))

    pub seen_found :
        {seen : List ℕ} {k i : ℕ} → i < n → k ≤ length seen → get_or roles i 0 ≡ q
        → position (text_at s starts ends i) (map (text_at s starts ends) (take k seen)) < k → Seen seen k i
        → i ≡ first_of (wanted q stop) s starts ends roles n
    seen_found {seen} {k} {i} h l e p v =
        search_found v.searched h (again_at l e v ∙ lt-ltb _ k p)

    pub seen_new :
        {seen kept : List ℕ} {k i : ℕ} → i < n → k < length seen → get_or roles i 0 ≡ q
        → k ≤ position (text_at s starts ends i) (map (text_at s starts ends) (take k seen)) → kept ≡ set seen k i → Seen seen k i → Seen kept (k + 1) (i + 1)
    seen_new {seen} {kept} {k} {i} h l e p g v =
        record {
          few = omega (arith, v.few);
          room = rw g (length-set seen k i ∙ v.room);
          below = rw g below;
          texts = rw g texts;
          searched = search_on v.searched h (again_at (omega arith) e v ∙ le-ltb _ k p);
        }
      where
        below : (j : ℕ) → j < k + 1 → get_or (set seen k i) j 0 < n
        below j m = go (eqb j k) refl
          where
            go : (b : Bool) → eqb j k ≡ b → get_or (set seen k i) j 0 < n
            go true d = omega (arith, eqb-true j k d, get_or-set_same seen k i 0 l, ap (λ (x : ℕ). get_or (set seen k i) x 0) (eqb-true j k d))
            go false d = rw (get_or-set_other seen k j i 0 (eqb-false j k d)) (v.below j (omega (arith, eqb-false j k d)))

        texts :
            (t : List ℕ)
            → spelt t (map (text_at s starts ends) (take (k + 1) (set seen k i))) ≡ with_text (role_of_number q) t (in_scope s starts ends roles q stop (i + 1))
        texts t =
            rw (add-one k, take-suc-set seen k i l, map_append (text_at s starts ends) (take k seen) (i ∷ []))
            (any_append (λ u. same u t) (map (text_at s starts ends) (take k seen)) (text_at s starts ends i ∷ [])
            ∙ ap (λ (b : Bool). b || (same (text_at s starts ends i) t || false)) (v.texts t)
            ∙ or_last (with_text (role_of_number q) t (in_scope s starts ends roles q stop i)) (same (text_at s starts ends i) t)
            ∙ sym (one_more i t ∙ more_hit (role_of_number q) (role_of_number stop) t (here i) (before i) (says_q i e)))

    -- a token that ends the scope; another token
    not_here : (i : ℕ) → (get_or roles i 0 ≡ q → ⊥) → applies_at (wanted q stop) s starts ends roles n i ≡ false
    not_here i e = rw (says_other i e)

    pub seen_reset : {seen : List ℕ} {k i : ℕ} → i < n → (get_or roles i 0 ≡ q → ⊥) → get_or roles i 0 ≡ stop → Seen seen k i → Seen seen 0 (i + 1)
    seen_reset {seen} {k} {i} h e d v =
        record {
          few = omega arith;
          room = v.room;
          below = λ j m. absurd (omega arith);
          texts = λ t.
              sym (one_more i t ∙ more_end (role_of_number q) (role_of_number stop) t (here i) (before i) (says_other i e) (role_same stop ts d));
          searched = search_on v.searched h (not_here i e);
        }

    pub seen_on : {seen : List ℕ} {k i : ℕ} → i < n → (get_or roles i 0 ≡ q → ⊥) → (get_or roles i 0 ≡ stop → ⊥) → Seen seen k i → Seen seen k (i + 1)
    seen_on {seen} {k} {i} h e d v =
        record {
          few = omega (arith, v.few);
          room = v.room;
          below = v.below;
          texts = λ t.
              v.texts t
              ∙ sym (one_more i t ∙ more_other (role_of_number q) (role_of_number stop) t (here i) (before i) (says_other i e) (role_other stop ts d));
          searched = search_on v.searched h (not_here i e);
        }

  pub seen_end : {seen : List ℕ} {k i : ℕ} → n ≤ i → Seen seen k i → i ≡ first_of (wanted q stop) s starts ends roles n
  seen_end {seen} {k} {i} h v = search_none v.searched h

-- ---- the same by the roles themselves

module _ (s : List ℕ) (ts : List Token) (q stop : Role) where
  wanted_is : wanted (role_number q) (role_number stop) ≡ repeated q stop
  wanted_is = ap₂ repeated (role_back q) (role_back stop)

  pub again_here : {i : ℕ} → i < length ts → i ≡ first_of (wanted (role_number q) (role_number stop)) s (starts ts) (ends ts) (roles ts) (length ts) → Some i ≡ first_in (repeated q stop) s ts
  again_here {i} h e =
      let g = e ∙ ap (λ (p : Context → Bool). first_of p s (starts ts) (ends ts) (roles ts) (length ts)) wanted_is in
      rw (← g, lt-ltb i (length ts) h)

  pub again_none : {i : ℕ} → length ts ≤ i → i ≡ first_of (wanted (role_number q) (role_number stop)) s (starts ts) (ends ts) (roles ts) (length ts) → None ≡ first_in (repeated q stop) s ts
  again_none {i} h e =
      let g = e ∙ ap (λ (p : Context → Bool). first_of p s (starts ts) (ends ts) (roles ts) (length ts)) wanted_is in
      rw (← g, le-ltb i (length ts) h)
