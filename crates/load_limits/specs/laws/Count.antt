-- Cause 6: an item too many of a section.
use Rattle.std.specs.Prelude.{◌≡◌, refl, Bool, true, false, List, ℕ, zero, suc, ◌+◌, ◌≤◌, ◌<◌, eqb, leb, length, get_or, set, replicate, Some, None}
use Rattle.std.proofs.Common.{sym, ap, ◌∙◌, arith, length-set, get_or-set_same, get_or-set_other}
use Rattle.std.proofs.lemmas.Bool.{eqb-true, eqb-false, le-leb, lt-leb}
use Rattle.std.proofs.Math.Option as math
use Rattle.spec_lists.specs.Select.{select, prepend_if}
use Rattle.spec_grammar.specs.Sentence.{Tagged}
use Rattle.spec_file.specs.Limit as file
use Rattle.spec_file.specs.Limit.{order, most, item_of}
use Rattle.spec_file.specs.Refusal.{item, too_many}
use Rattle.load_tokens.specs.declared.Token.{Token}
use Rattle.load_tokens.specs.Arrays.{role_of_number, tagged_at}
use Rattle.load_tokens.specs.Views.{starts, ends, roles, blank}
use Rattle.load_tokens.specs.laws.Same.{role_here}
use Rattle.load_spans.specs.Roles.{arrays}
use Rattle.load_spans.specs.Seek.{earlier}
use Rattle.load_spans.specs.laws.Seek.{earlier_none, earlier_step}
use Rattle.load_spans.specs.Search.{first_in, applies_in}
use Rattle.load_spans.specs.laws.Search.{Searched, search_first, search_on}
use Rattle.load_spans.specs.laws.Tokens.{found_at}
use Rattle.load_limits.specs.declared.Section.{Section}
use Rattle.load_limits.specs.declared.Section.TheVariants.{UserGroups, HostGroups, Members, AccessGroups, Inputs, Rules, References}
use Rattle.load_limits.specs.Limit.{section_of, as_section}

abbrev back : Section → math.Option file.Section
back k = math.some (as_section k)

-- a section that the code names is the one meant
pub section_back : (o : math.Option file.Section) {k : Section} → section_of o ≡ Some k → o ≡ math.some (as_section k)
section_back math.none e = cc
section_back (math.some file.user_groups) {k} e = let g : UserGroups ≡ k = cc in ap back g
section_back (math.some file.host_groups) {k} e = let g : HostGroups ≡ k = cc in ap back g
section_back (math.some file.members) {k} e = let g : Members ≡ k = cc in ap back g
section_back (math.some file.access_groups) {k} e = let g : AccessGroups ≡ k = cc in ap back g
section_back (math.some file.inputs) {k} e = let g : Inputs ≡ k = cc in ap back g
section_back (math.some file.rules) {k} e = let g : Rules ≡ k = cc in ap back g
section_back (math.some file.references) {k} e = let g : References ≡ k = cc in ap back g

pub section_none : (o : math.Option file.Section) → section_of o ≡ None → o ≡ math.none
section_none math.none e = refl
section_none (math.some file.user_groups) e = cc
section_none (math.some file.host_groups) e = cc
section_none (math.some file.members) e = cc
section_none (math.some file.access_groups) e = cc
section_none (math.some file.inputs) e = cc
section_none (math.some file.rules) e = cc
section_none (math.some file.references) e = cc

pub order_small : (t : file.Section) → order t < 7
order_small file.user_groups = omega arith
order_small file.host_groups = omega arith
order_small file.members = omega arith
order_small file.access_groups = omega arith
order_small file.inputs = omega arith
order_small file.rules = omega arith
order_small file.references = omega arith

-- as many tokens stand before the i-th as i
module _ (s starts ends roles : List ℕ) where
  earlier_length : (i : ℕ) → length (earlier s (arrays starts ends) roles i) ≡ i
  unfolding earlier
  earlier_length zero = refl
  earlier_length (suc i) = ap suc (earlier_length i)

module _ (s : List ℕ) (ts : List Token) where
  -- the tokens before the i-th
  abbrev pub before : ℕ → List Tagged
  before i = earlier s (arrays (starts ts) (ends ts)) (roles ts) i

  -- none of the first i tokens was an item too many, and counts says how many items of each section they are
  pub record Counting (counts : List ℕ) (i : ℕ) : Type 0 where
    pub searched : Searched too_many s (starts ts) (ends ts) (roles ts) (length ts) i
    pub all : (t : file.Section) → get_or counts (order t) 0 ≡ length (select (item t) (before i))
    pub long : length counts ≡ 7

  abbrev no_items : List ℕ
  no_items = replicate 7 0

  none_yet : (t : file.Section) → get_or no_items (order t) 0 ≡ 0
  none_yet file.user_groups = refl
  none_yet file.host_groups = refl
  none_yet file.members = refl
  none_yet file.access_groups = refl
  none_yet file.inputs = refl
  none_yet file.rules = refl
  none_yet file.references = refl

  pub counting_first : Counting (replicate 7 0) 0
  counting_first =
      record {
        searched = search_first too_many s (starts ts) (ends ts) (roles ts) (length ts);
        all = λ t. none_yet t ∙ sym (ap (λ (xs : List Tagged). length (select (item t) xs)) (earlier_none s (arrays (starts ts) (ends ts)) (roles ts)));
        long = refl;
      }

  module _ {counts : List ℕ} {i : ℕ} (c : Counting counts i) (h : i < length ts) where
    -- the i-th token is an item of no section
    pub count_none : item_of (get_or ts i blank).role ≡ math.none → Counting counts (i + 1)
    count_none e =
        let g = ap item_of (role_here ts i) ∙ e in
        record {
          searched = search_on c.searched h (rw g);
          all = λ t. rw (earlier_step s (arrays (starts ts) (ends ts)) (roles ts) i, g) (c.all t);
          long = c.long;
        }

    module _ {t : file.Section} (e : item_of (get_or ts i blank).role ≡ math.some t) where
      -- it is one of a section
      said : item_of (role_of_number (get_or (roles ts) i 0)) ≡ math.some t
      said = ap item_of (role_here ts i) ∙ e

      many_is : applies_in too_many s ts i ≡ leb (most t) (get_or counts (order t) 0)
      many_is = rw (said, c.all t)

      pub many_here : most t ≤ get_or counts (order t) 0 → Some i ≡ first_in too_many s ts
      many_here g = found_at too_many s ts i c.searched h (many_is ∙ le-leb (most t) (get_or counts (order t) 0) g)

      counted_on :
          (u : file.Section)
          → get_or (set counts (order t) (get_or counts (order t) 0 + 1)) (order u) 0
          ≡ length (prepend_if (eqb (order t) (order u)) (tagged_at s (arrays (starts ts) (ends ts)) (roles ts) i) (select (item u) (before i)))
      counted_on u = go (eqb (order t) (order u)) refl
        where
          go :
              (b : Bool) → eqb (order t) (order u) ≡ b
              → get_or (set counts (order t) (get_or counts (order t) 0 + 1)) (order u) 0
              ≡ length (prepend_if b (tagged_at s (arrays (starts ts) (ends ts)) (roles ts) i) (select (item u) (before i)))
          go true f =
              let z : order t ≡ order u = eqb-true (order t) (order u) f in
              rw z (omega (arith, get_or-set_same counts (order u) (get_or counts (order u) 0 + 1) 0 (omega (arith, c.long, order_small u)), c.all u))
          go false f =
              omega (arith, get_or-set_other counts (order t) (order u) (get_or counts (order t) 0 + 1) 0 (λ z. eqb-false (order t) (order u) f (sym z)), c.all u)

      pub count_on : get_or counts (order t) 0 < most t → Counting (set counts (order t) (get_or counts (order t) 0 + 1)) (i + 1)
      count_on g =
          record {
            searched = search_on c.searched h (many_is ∙ lt-leb (most t) (get_or counts (order t) 0) g);
            all = λ u. rw (earlier_step s (arrays (starts ts) (ends ts)) (roles ts) i, said) (counted_on u);
            long = length-set counts (order t) (get_or counts (order t) 0 + 1) ∙ c.long;
          }
