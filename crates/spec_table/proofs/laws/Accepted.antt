-- A file to which no cause of refusal applies keeps to the limits of a table.
use Rattle.std.specs.Prelude.{◌≡◌, refl, Bool, true, false, cond, List, [], ◌∷◌, map, ℕ, ◌+◌, ◌≤◌, leb, ltb, length}
use Rattle.std.proofs.Common.{sym, ap, ◌∙◌, ltb-false, leb-true}
use Rattle.std.proofs.Math.Option.{none, some, get_or}
use native.Mathlib.Omega.{arith}
use Rattle.std.proofs.lemmas.List.{length-map}
use Rattle.spec_lists.specs.Text.{lowered}
use Rattle.spec_lists.specs.Select.{joined, total, holds_of, missing}
use Rattle.spec_lists.specs.Every.{Every, nil, cons}
use Rattle.spec_lists.proofs.laws.Every.{every_append, every_implies, every_map, every_joined, every_both}
use Rattle.spec_lists.proofs.laws.Joined.{map_map}
use Rattle.spec_token.specs.Word.{link_letter, greatest_letter}
use Rattle.spec_token.specs.Token.{Token}
use Rattle.spec_token.proofs.laws.Kinds.{InputSpelled, spelled_bytes, spelled_inputs}
use Rattle.spec_grammar.specs.declared.Role.{Role}
use Rattle.spec_grammar.specs.declared.Role.TheVariants.{UagName, User, HagName, Host, AsgName, Input, Pvname, RuleWord, Level, UagNamed, HagNamed}
use Rattle.spec_grammar.specs.declared.Role.TheVariants.{Calculation}
use Rattle.spec_grammar.specs.Sentence.{Tagged}
use Rattle.spec_grammar.proofs.laws.Inputs.{may_say, reads_inputs}
use Rattle.spec_calc.specs.Reader.{tree_of}
use Rattle.spec_rule.specs.Answering.{greatest_level}
use Rattle.spec_file.specs.Limit.{Section, user_groups, host_groups, members, access_groups, inputs, rules, references, most, most_bytes, longest}
use Rattle.spec_file.specs.Limit.{longest_name, longest_calculation}
use Rattle.spec_file.specs.Contents.{has_role, text, texts, Clause, clauses, level_of, value_of, head_of, Link, RuleText, rule_text, file_of}
use Rattle.spec_file.specs.Refusal.{contexts, item}
use Rattle.spec_file.specs.Acceptance.{Acceptable}
use Rattle.spec_file.specs.Load.{causes, refused_by, accept, verdict}
use Rattle.spec_file.proofs.laws.Causes.{unanswered}
use Rattle.spec_file.proofs.laws.Theorem.{accepted_is}
use Rattle.spec_lists.proofs.laws.Sums.{sum, sum_nil, sum_cons, sum_total, sum_plus, sum_append, sum_joined, sum_map, length_sum, length_joined}
use Rattle.spec_file.proofs.laws.Counted.{sum_of, sum_select, sum_texts, sum_heads, sum_bodies, Whole, every_clauses, every_texts, first_has, every_here, every_read, input_kind, calculated, Clear, clear}
use Rattle.spec_file.proofs.laws.Counted.{string_roles, says_among, once, role_is, sum_roles, counted_roles}
use Rattle.spec_table.specs.Written.{all_links, all_rules, names}
use Rattle.spec_table.proofs.laws.Fits.{CalculationFits, no_calculation, allowed, Fits}

-- ---- what holds of each token

-- its text is no longer than its role allows
abbrev Short : Tagged → Type 0
Short x = holds_of (longest x.role) (λ n. ltb n (length (text x))) ≡ false

-- if it is a calculation, it is an allowed one
abbrev Calculated : Tagged → Type 0
Calculated x = has_role Calculation x ≡ true → missing (tree_of (text x)) ≡ false

short_by : (n : ℕ) (r : Role) → longest r ≡ some n → (x : Tagged) → has_role r x ≡ true → Short x → length (text x) ≤ n
short_by n r l x e h = ltb-false n (length (text x)) (rw (role_is r x e, l) at h)

-- a level is 0 or 1
level_small : (ts : List (List ℕ)) → value_of 0 level_of ts ≤ greatest_level
level_small [] = omega arith
level_small (t ∷ ts) = leb-true (get_or (level_of t) 0) 1 (simp go)
  where
    go : (a b : Bool) → leb (get_or (cond a (some 0) (cond b (some 1) none)) 0) 1 ≡ true
    go true b = refl
    go false true = refl
    go false false = refl

first_text : (ts : List (List ℕ)) → length (get_or (head_of ts) []) ≤ sum length ts
first_text [] = simp sum_nil (omega arith)
first_text (t ∷ ts) = simp sum_cons (omega arith)

first_calculation : {ts : List (List ℕ)} → Every (λ s. (length s ≤ longest_calculation) × (missing (tree_of s) ≡ false)) ts → CalculationFits (head_of ts)
first_calculation nil = no_calculation
first_calculation (cons h c) = allowed h.0 h.1

abbrev size : Tagged → ℕ
size x = length (text x)

abbrev one : Tagged → ℕ
one x = 1

lowered_length : (s : List ℕ) → length (lowered s) ≡ length s
lowered_length s = length-map s _

-- ---- through the parts of a file

ruleset sums = (length_joined, sum_joined, sum_append, sum_map, sum_select, sum_cons, sum_nil)

abbrev link : Clause → Link
link p = record { letter = link_letter (text p.head); name = get_or (head_of (texts Pvname p.body)) [] }

module _ {P : Tagged → Type 0} {xs : List Tagged} (e : Every P xs) where
  every_link : {Q : Link → Type 0} → ((p : Clause) → Whole P Input p → Q (link p)) → Every Q (all_links (file_of xs))
  every_link f =
      every_joined
      (every_map _ (every_map _ (every_implies (λ p w. every_map _ (every_implies f (every_clauses Input w.body))) (every_clauses AsgName e))))

  every_rule : {Q : RuleText → Type 0} → ((p : Clause) → Whole P RuleWord p → Q (rule_text p.body)) → Every Q (all_rules (file_of xs))
  every_rule f =
      every_joined
      (every_map _ (every_map _ (every_implies (λ p w. every_map _ (every_implies f (every_clauses RuleWord w.body))) (every_clauses AsgName e))))

module _ (xs : List Tagged) where
  -- what stands in the inputs or the rules of access groups
  sum_deep :
      (r : Role) (g : List Tagged → ℕ) (w : Tagged → ℕ) → ((ys : List Tagged) → g ys ≤ sum w ys)
      → sum (λ p. sum (λ q. g q.body) (clauses r p.body)) (clauses AsgName xs) ≤ sum w xs
  sum_deep r g w f = sum_bodies AsgName (λ ys. sum (λ q. g q.body) (clauses r ys)) w (sum_bodies r g w f) xs

  module _ (m : Tagged → ℕ) where
    -- the tokens that say u, each in its part
    sum_each : (r u : Role) → sum (λ p. sum_of (has_role u) m p.body) (clauses r xs) ≤ sum_of (has_role u) m xs
    sum_each r u = sum_bodies r (sum_of (has_role u) m) (λ x. cond (has_role u x) (m x) 0) (λ ys. omega arith) xs

    -- the inputs or the rules, each in its access group
    sum_inner : (r : Role) → sum (λ p. sum (λ q. m q.head) (clauses r p.body)) (clauses AsgName xs) ≤ sum_of (has_role r) m xs
    sum_inner r = sum_bodies AsgName (λ ys. sum (λ q. m q.head) (clauses r ys)) (λ x. cond (has_role r x) (m x) 0) (λ ys. omega (arith, sum_heads r m ys)) xs

    -- a rule's references to user groups, then those to host groups
    sum_references :
        sum
        (λ p. sum (λ q. sum_of (has_role UagNamed) m q.body + (sum_of (has_role HagNamed) m q.body + 0)) (clauses RuleWord p.body))
        (clauses AsgName xs)
        ≤ sum_of (has_role UagNamed) m xs + sum_of (has_role HagNamed) m xs
    sum_references = omega (arith, both xs, sum_deep RuleWord (λ ys. weighed UagNamed ys + (weighed HagNamed ys + 0)) weight (λ ys. omega (arith, both ys)))
      where
        weighed : Role → List Tagged → ℕ
        weighed r = sum_of (has_role r) m

        weight : Tagged → ℕ
        weight x = cond (has_role UagNamed x) (m x) 0 + cond (has_role HagNamed x) (m x) 0

        both : (ys : List Tagged) → sum weight ys ≡ weighed UagNamed ys + weighed HagNamed ys
        both = sum_plus (λ x. cond (has_role UagNamed x) (m x) 0) (λ x. cond (has_role HagNamed x) (m x) 0)

  -- the first token that says u of each part
  sum_first :
      (r u : Role)
      → sum (λ p. sum (λ q. length (get_or (head_of (texts u q.body)) [])) (clauses r p.body)) (clauses AsgName xs) ≤ sum_of (has_role u) size xs
  sum_first r u = sum_deep r (λ ys. length (get_or (head_of (texts u ys)) [])) _ (λ ys. omega (arith, first_text (texts u ys), sum_texts u length ys))

  -- all strings together are no longer than all tokens
  strings_fit : length (joined (joined (names (file_of xs)))) ≤ sum size xs
  unfolding sum
  strings_fit =
      simp
      (sums, lowered_length)
      (omega (
        arith,
        sum_heads UagName size xs,
        sum_heads HagName size xs,
        sum_heads AsgName size xs,
        sum_each size UagName User,
        sum_each size HagName Host,
        sum_references size,
        sum_first Input Pvname,
        sum_first RuleWord Calculation,
        sum_roles string_roles size size (λ x. (once x).string) xs,
      ))

-- ---- the theorem

pub accepted_fits :
    (xs : List Tagged) → refused_by causes (contexts xs) ≡ none → total (map (λ x. length x.token.text) xs) ≤ most_bytes
    → Every (λ x. has_role Input x ≡ true → link_letter (text x) ≤ greatest_letter) xs
    → Fits (file_of xs)
unfolding sum
accepted_fits xs h b letters =
    record {
      uag_count = simp (length_sum, sums) (omega (arith, sum_heads UagName one xs, counted user_groups (UagName ∷ []) (λ x. (once x).user_group)));
      hag_count = simp (length_sum, sums) (omega (arith, sum_heads HagName one xs, counted host_groups (HagName ∷ []) (λ x. (once x).host_group)));
      member_count =
          simp
          (length_sum, sums)
          (omega (arith, sum_each xs one UagName User, sum_each xs one HagName Host, counted members (User ∷ Host ∷ []) (λ x. (once x).member)));
      asg_count = simp (length_sum, sums) (omega (arith, sum_heads AsgName one xs, counted access_groups (AsgName ∷ []) (λ x. (once x).access_group)));
      input_count = simp (length_sum, sums) (omega (arith, sum_inner xs one Input, counted inputs (Input ∷ []) (λ x. (once x).input)));
      rule_count = simp (length_sum, sums) (omega (arith, sum_inner xs one RuleWord, counted rules (RuleWord ∷ []) (λ x. (once x).rule)));
      reference_count = simp (length_sum, sums) (omega (arith, sum_references xs one, counted references (UagNamed ∷ HagNamed ∷ []) (λ x. (once x).reference)));
      string_bytes = omega (arith, strings_fit xs, sum_total size xs);
      name_lengths =
          cons (every_map _ (every_map _ (heads_short UagName refl)))
          (cons (every_map _ (every_map _ (heads_short HagName refl)))
          (cons
          (every_joined
          (every_append
          (every_map _ (every_map _ (every_implies (λ p w. texts_short User refl w.body) (every_clauses UagName all_short))))
          (every_map _ (every_map _ (every_implies (λ p w. every_map lowered (every_implies (λ s l. omega (arith, lowered_length s)) (texts_short Host refl w.body))) (every_clauses HagName all_short))))))
          (cons (every_map _ (every_map _ (heads_short AsgName refl)))
          (cons (every_map _ (every_link all_short (λ p w. first_has {Q = λ s. length s ≤ longest_name} (omega arith) (texts_short Pvname refl w.body))))
          (cons (every_map _ (every_joined (every_joined (every_map _ (every_rule all_short (λ p w. cons (every_map _ (texts_short UagNamed refl w.body)) (cons (every_map _ (texts_short HagNamed refl w.body)) nil))))))) nil)))));
      calculations =
          every_rule short_and_calculated
          (λ p w. first_calculation (every_texts Calculation (λ x s k. (short_by longest_calculation Calculation refl x s k.0, k.1 s)) w.body));
      letters = every_link letters (λ p w. w.head w.said);
      levels = every_rule letters (λ p w. level_small (texts Level p.body));
    }
  where
    no_cause : Clear (contexts xs)
    no_cause = clear (contexts xs) h

    counted : (s : Section) (rs : List Role) → ((x : Tagged) → says_among rs 1 x ≤ cond (item s x) 1 0) → sum (λ r. sum_of (has_role r) one xs) rs ≤ most s
    counted s rs f = counted_roles s rs f xs no_cause.few

    all_short : Every Short xs
    all_short = every_here [] xs no_cause.short

    all_calculated : Every Calculated xs
    all_calculated = every_here [] xs (every_implies calculated no_cause.calculations)

    short_and_calculated : Every (λ x. Short x × Calculated x) xs
    short_and_calculated = every_both (λ x p q. (p, q)) all_short all_calculated

    heads_short : (r : Role) → longest r ≡ some longest_name → Every (λ p. length (text p.head) ≤ longest_name) (clauses r xs)
    heads_short r l = every_implies (λ p w. short_by longest_name r l p.head w.said w.head) (every_clauses r all_short)

    texts_short : (r : Role) → longest r ≡ some longest_name → {ys : List Tagged} → Every Short ys → Every (λ s. length s ≤ longest_name) (texts r ys)
    texts_short r l = every_texts r (short_by longest_name r l)

-- ---- from a text

-- what is accepted keeps to the limits
pub fits : (s : List ℕ) (xs : List Tagged) → verdict s ≡ accept xs → Fits (file_of xs)
fits s xs e =
    let a = accepted_is s xs e in
    accepted_fits xs
    (unanswered (contexts xs) a.uncaused)
    (bound a)
    (every_both inputs
    (reads_inputs a.as_read.spelled xs a.as_read.reading)
    (every_read a.as_read (spelled_inputs a.as_read.spelling)))
  where
    bound : (a : Acceptable s xs) → total (map (λ x. length x.token.text) xs) ≤ most_bytes
    bound a =
        let b = spelled_bytes a.as_read.spelling in
        let m =
        sym (map_map (λ (t : Token). length t.text) (λ (x : Tagged). x.token) xs)
        ∙ ap (map (λ (t : Token). length t.text)) a.as_read.reading.tokens in
        rw m (let c = a.short in omega arith)

    inputs : (x : Tagged) → may_say x.token.kind x.role ≡ true → InputSpelled x.token → has_role Input x ≡ true → link_letter (text x) ≤ greatest_letter
    inputs x m sp i = sp (input_kind x m i)
