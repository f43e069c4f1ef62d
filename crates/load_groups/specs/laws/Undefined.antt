-- The search for a group that a rule names and that the file does not define.
use Rattle.std.specs.Prelude.{◌≡◌, refl, Bool, true, false, cond, not, ◌&&◌, ◌||◌, List, [], ◌∷◌, ◌++◌, map, ℕ, zero, suc, ◌+◌, ◌-◌, ◌≤◌, ◌<◌, eqb, ltb, length, get_or, take, Some, None, is_none, position}
use Rattle.std.proofs.Common.{sym, ap, ◌∙◌, add-one, arith}
use Rattle.std.proofs.lemmas.Bool.{eqb-true}
use Rattle.std.proofs.lemmas.List.{length-map}
use Rattle.spec_lists.specs.Text.{same}
use Rattle.spec_lists.specs.Select.{any}
use Rattle.spec_lists.proofs.laws.Any.{any_append, or_between}
use Rattle.spec_grammar.specs.declared.Role.{Role}
use Rattle.spec_grammar.specs.declared.Role.TheVariants.{UagName, HagName, UagNamed, HagNamed}
use Rattle.spec_grammar.specs.Codes.{role_number, same_role}
use Rattle.spec_grammar.specs.Sentence.{Tagged}
use Rattle.spec_file.specs.Contents.{has_role, text}
use Rattle.spec_file.specs.Refusal.{undefined, undefined_group}
use Rattle.load_tokens.specs.declared.Token.{Token}
use Rattle.load_tokens.specs.Arrays.{Arrays, role_of_number, tagged_at, tagged_from}
use Rattle.load_tokens.specs.laws.Arrays.{role_back}
use Rattle.load_tokens.specs.Views.{starts, ends, roles, blank}
use Rattle.load_tokens.specs.laws.Views.{role_at}
use Rattle.load_tokens.specs.laws.Same.{role_here}
use Rattle.load_spans.specs.Roles.{RoleCode, arrays, tokens}
use Rattle.load_spans.specs.laws.Roles.{same_number, tokens_step}
use Rattle.load_spans.specs.laws.Codes.{role_other}
use Rattle.load_spans.specs.Spans.{AmongTokens, text_at, text_of}
use Rattle.load_spans.specs.Listed.{indices, Listed}
use Rattle.load_spans.specs.laws.Listed.{listed_names, listed_few, listed_length, listed_among}
use Rattle.load_spans.specs.Position as texts
use Rattle.load_spans.specs.laws.Position.{spot_any}
use Rattle.load_spans.specs.laws.Tokens.{spot, below_min}
use Rattle.load_spans.specs.Seek.{earlier}
use Rattle.load_spans.specs.laws.Seek.{earlier_none, earlier_step, seek_either}
use Rattle.load_spans.specs.Search.{first_in, applies_in, below, earlier_of}

-- the tokens of a role among which a text is looked for
named_among :
    (s : List ℕ) (a : Arrays) (roles : List ℕ) (q : ℕ) (t : List ℕ) (i k : ℕ) → RoleCode q
    → any (λ y. has_role (role_of_number q) y && same (text y) t) (tagged_from s a roles i k)
    ≡ any (λ u. same u t) (map (text_at s a.starts a.ends) (indices q roles i k))
unfolding indices tagged_from
named_among s a roles q t i zero h = refl
named_among s a roles q t i (suc k) h = rw (same_number (get_or roles i 0) q h) (go (eqb (get_or roles i 0) q) (named_among s a roles q t (suc i) k h))
  where
    go :
        (b : Bool)
        → any (λ y. has_role (role_of_number q) y && same (text y) t) (tagged_from s a roles (suc i) k)
        ≡ any (λ u. same u t) (map (text_at s a.starts a.ends) (indices q roles (suc i) k))
        → (b && same (text (tagged_at s a roles i)) t) || any (λ y. has_role (role_of_number q) y && same (text y) t) (tagged_from s a roles (suc i) k)
        ≡ any (λ u. same u t) (map (text_at s a.starts a.ends) (cond b (i ∷ indices q roles (suc i) k) (indices q roles (suc i) k)))
    go true e = ap (λ (b : Bool). same (text (tagged_at s a roles i)) t || b) e
    go false e = e

-- the tokens before the i-th and those from it on are all of them
module _ (s : List ℕ) (a : Arrays) (roles : List ℕ) (n : ℕ) (p : Tagged → Bool) where
  parted : (i : ℕ) → i ≤ n → any p (earlier s a roles i) || any p (tokens s a roles i n) ≡ any p (tokens s a roles 0 n)
  parted zero h = rw (earlier_none s a roles)
  parted (suc i) h =
      rw (← add-one i, earlier_step s a roles i)
      (or_between (any p (earlier s a roles i)) (p (tagged_at s a roles i)) (any p (tokens s a roles (i + 1) n))
      ∙ ap (λ (l : List Tagged). any p (earlier s a roles i) || any p l) (sym (tokens_step s a roles i n (omega arith)))
      ∙ parted i (omega arith))

  -- but for one that fails the test, those around it
  around :
      (i : ℕ) → i < n → p (tagged_at s a roles i) ≡ false → any p (earlier s a roles i ++ tokens s a roles (i + 1) n) ≡ any p (tokens s a roles 0 n)
  around i h e =
      any_append p (earlier s a roles i) (tokens s a roles (i + 1) n)
      ∙ sym (ap (λ (b : Bool). any p (earlier s a roles i) || (b || any p (tokens s a roles (i + 1) n))) e)
      ∙ ap (λ (l : List Tagged). any p (earlier s a roles i) || any p l) (sym (tokens_step s a roles i n h))
      ∙ parted i (omega arith)

module _ (s : List ℕ) (ts : List Token) (named defining : Role) where
  module _
      (tn : RoleCode (role_number named)) (td : RoleCode (role_number defining)) (d : role_number named ≡ role_number defining → ⊥) {names list : List ℕ} {k : ℕ}
      (l : Listed names list (role_number defining) (roles ts) (length ts) k) (room : length ts ≤ length names)
    where
      all_listed : take k list ≡ indices (role_number defining) (roles ts) 0 (length ts)
      all_listed = listed_names l (omega (arith, listed_few l))

      -- the first k of list are the tokens that define groups
      pub defined_room : k ≤ length list
      defined_room = omega (arith, listed_few l, listed_length l)

      pub defined_among : AmongTokens (take k list) (length ts)
      defined_among = rw all_listed (listed_among (role_number defining) (roles ts) (length ts))

      -- whether the text of the i-th is none of theirs
      abbrev apart : (i : ℕ) → Bool
      apart i = is_none (position (λ name. same (text_of s ts name) (text_of s ts i)) (take k list))

      apart_is : (i : ℕ) → apart i ≡ not (any (λ u. same u (text_of s ts i)) (map (text_of s ts) (take k list)))
      apart_is i =
          ap is_none (spot (text_of s ts) (text_of s ts i) (take k list))
          ∙ rw (spot_any (text_of s ts i) (map (text_of s ts) (take k list)), length-map (take k list) (text_of s ts))
          (go (ltb (texts.position (text_of s ts i) (map (text_of s ts) (take k list))) (length (take k list))))
        where
          go : (b : Bool) → is_none (cond b (Some (texts.position (text_of s ts i) (map (text_of s ts) (take k list)))) None) ≡ not b
          go true = refl
          go false = refl

      -- a name among all the tokens is one among those listed
      sought_among :
          (i : ℕ) → i < length ts → get_or (roles ts) i 0 ≡ role_number named
          → any (λ x. has_role (role_of_number (role_number defining)) x && same (text x) (text_of s ts i))
          (earlier s (arrays (starts ts) (ends ts)) (roles ts) i ++ tokens s (arrays (starts ts) (ends ts)) (roles ts) (i + 1) (length ts))
          ≡ any (λ u. same u (text_of s ts i)) (map (text_of s ts) (take k list))
      sought_among i h e =
          let t = text_of s ts i in
          let q = role_number defining in
          let a = arrays (starts ts) (ends ts) in
          let n = length ts in
          let p : Tagged → Bool = λ x. has_role (role_of_number q) x && same (text x) t in
          let z : n - 0 ≡ n = omega arith in
          let other : has_role (role_of_number q) (tagged_at s a (roles ts) i) ≡ false = role_other q td (λ f. d (sym e ∙ f)) in
          let here : p (tagged_at s a (roles ts) i) ≡ false = ap (λ (b : Bool). b && same t t) other in
          around s a (roles ts) n p i h here
          ∙ ap (λ (m : ℕ). any p (tagged_from s a (roles ts) 0 m)) z
          ∙ named_among s a (roles ts) q t 0 n td
          ∙ ap (λ (ks : List ℕ). any (λ u. same u t) (map (text_of s ts) ks)) (sym (listed_names l (omega (arith, listed_few l))))

      -- the test tells which names are of no group
      pub undefined_tells :
          (i : ℕ) → i < length ts
          → (same_role (get_or ts i blank).role named && is_none (position (λ name. same (text_of s ts name) (text_of s ts i)) (take k list)))
          ≡ applies_in (undefined named defining) s ts i
      undefined_tells i h =
          rw (← role_back defining, role_here ts i) (go (same_role (get_or ts i blank).role named) refl)
        where
          go :
              (b : Bool) → same_role (get_or ts i blank).role named ≡ b
              → (b && apart i)
              ≡ (b
              && not
              (any (λ x. has_role (role_of_number (role_number defining)) x && same (text x) (text_of s ts i))
              (earlier s (arrays (starts ts) (ends ts)) (roles ts) i ++ tokens s (arrays (starts ts) (ends ts)) (roles ts) (i + 1) (length ts))))
          go true f = apart_is i ∙ ap not (sym (sought_among i h (role_at ts i ∙ eqb-true _ _ f)))
          go false f = refl

-- the first undefined group is the first of the two firsts
pub first_group :
    (s : List ℕ) (ts : List Token)
    → first_in undefined_group s ts ≡ earlier_of (first_in (undefined UagNamed UagName) s ts) (first_in (undefined HagNamed HagName) s ts)
first_group s ts =
    ap (below (length ts))
    (seek_either (undefined UagNamed UagName) (undefined HagNamed HagName) [] (tokens s (arrays (starts ts) (ends ts)) (roles ts) 0 (length ts)))
    ∙ sym (below_min (length ts) _ _)
