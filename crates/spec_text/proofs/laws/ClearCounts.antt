-- The cause of 6: the text has no more items of a section than it holds.
use Rattle.std.specs.Prelude.{◌≡◌, refl, Bool, true, false, cond, List, [], ◌∷◌, ◌++◌, map, ℕ, suc, ◌+◌, ◌≤◌, ◌<◌, eqb, leb, length}
use Rattle.std.proofs.Common.{sym, ap, ◌∙◌, length-append, eq-eqb}
use Rattle.std.proofs.Math.Option.{Option, none, some}
use native.Mathlib.Omega.{arith}
use Rattle.std.proofs.lemmas.Bool.{lt-leb}
use Rattle.spec_lists.specs.Text.{bytes}
use Rattle.spec_lists.specs.Select.{select, prepend_if, joined, holds_of}
use Rattle.spec_lists.proofs.laws.Joined.{select_append}
use Rattle.spec_lists.proofs.laws.Sums.{sum, sum_nil, sum_cons, sum_map, sum_joined, sum_same, sum_ones, sum_none, length_each}
use Rattle.spec_grammar.specs.declared.Role.{Role}
use Rattle.spec_grammar.specs.declared.Role.TheVariants.{UagName, User, HagName, Host, AsgName, Input, Pvname, RuleWord, UagNamed, HagNamed}
use Rattle.spec_grammar.specs.Sentence.{Tagged}
use Rattle.spec_file.specs.Limit.{Section, user_groups, host_groups, members, access_groups, inputs, rules, references, order, most, item_of}
use Rattle.spec_file.specs.Contents.{Group, Link, RuleText, Asg, File}
use Rattle.spec_file.specs.Meaning.{switched_off}
use Rattle.spec_file.specs.Refusal.{item, too_many}
use Rattle.spec_text.specs.Lines.{link_word}
use Rattle.spec_text.proofs.laws.Keeps.{named_in, Few}
use Rattle.spec_text.proofs.laws.Sayings.{Says, saying, strings, group_sayings, link_sayings, calculation_sayings, unknown_sayings, head_sayings}
use Rattle.spec_text.proofs.laws.Sayings.{predicate_sayings, rule_sayings, links_sayings, rules_sayings, asg_sayings, file_sayings}
use Rattle.spec_text.proofs.laws.Heard.{count_says}
use Rattle.spec_text.proofs.laws.ClearContexts.{Onward, end, next, Respects}

abbrev count : Section → List Tagged → ℕ
count s xs = length (select (item s) xs)

-- ---- a token for which there is room

abbrev pub Fits : List Tagged → Tagged → Type 0
Fits b x = too_many (record { backwards = b; here = x; onwards = [] }) ≡ false

pub fits_respects : Respects Fits
fits_respects = record { quiet = λ b x e. rw e; heard = λ b d x y s e t q. rw e (go b d s (item_of y.role) q) }
  where
    go :
        (b d : List Tagged) → Says b d → (o : Option Section) → holds_of o (λ s. leb (most s) (count s d)) ≡ false
        → holds_of o (λ s. leb (most s) (count s b)) ≡ false
    go b d s none h = refl
    go b d s (some t) h = rw (count_says t s) h

-- tokens that are not too many with those before
fits : (b xs : List Tagged) → ((s : Section) → count s b + count s xs ≤ most s) → Onward Fits b xs
fits b [] l = end
fits b (x ∷ xs) l = next (here (item_of x.role) refl) (fits (x ∷ b) xs (λ s. omega (arith, l s, moved s (item s x))))
  where
    moved :
        (s : Section) (i : Bool)
        → length (prepend_if i x (select (item s) b)) + count s xs ≡ count s b + length (prepend_if i x (select (item s) xs))
    moved s true = omega arith
    moved s false = refl

    counts : (t : Section) → item_of x.role ≡ some t → item t x ≡ true
    counts t e = ap (λ (o : Option Section). holds_of o (λ u. eqb (order u) (order t))) e ∙ eq-eqb (order t) (order t) refl

    room : (t : Section) (i : Bool) → i ≡ true → count t b + length (prepend_if i x (select (item t) xs)) ≤ most t → count t b < most t
    room t i e h = let z : length (prepend_if i x (select (item t) xs)) ≡ suc (count t xs) = rw e in omega arith

    here : (o : Option Section) → item_of x.role ≡ o → holds_of o (λ s. leb (most s) (count s b)) ≡ false
    here none e = refl
    here (some t) e = lt-leb (most t) (count t b) (room t (item t x) (counts t e) (l t))

-- ---- how many items there are

-- n, if a token of the role r is an item of the section
abbrev if_item : Section → Role → ℕ → ℕ
if_item s r n = cond (item s (saying r [])) n 0

module _ (s : Section) where
  count_append : (xs ys : List Tagged) → count s (xs ++ ys) ≡ count s xs + count s ys
  count_append xs ys = ap length (select_append (item s) xs ys) ∙ length-append (select (item s) xs) (select (item s) ys)

  count_joined :
      {A : Type 0} (g : A → List Tagged) (n : A → ℕ) → ((x : A) → count s (g x) ≡ n x) → (xs : List A) → count s (joined (map g xs)) ≡ sum n xs
  count_joined g n e [] = sym (sum_nil n)
  count_joined g n e (x ∷ xs) = omega (arith, count_append (g x) (joined (map g xs)), e x, count_joined g n e xs, sum_cons n x xs)

  count_strings : (r : Role) (ss : List (List ℕ)) → count s (strings r ss) ≡ if_item s r (length ss)
  count_strings r [] = go (item s (saying r []))
    where
      go : (i : Bool) → ◌≡◌ {A = ℕ} 0 (cond i 0 0)
      go true = refl
      go false = refl
  count_strings r (t ∷ ss) = go (item s (saying r [])) (count_strings r ss)
    where
      go :
          (i : Bool) → count s (strings r ss) ≡ cond i (length ss) 0
          → length (prepend_if i (saying r t) (select (item s) (strings r ss))) ≡ cond i (suc (length ss)) 0
      go true e = ap suc e
      go false e = e

  count_one : (r : Role) (t : List ℕ) (xs : List Tagged) → count s (saying r t ∷ xs) ≡ if_item s r 1 + count s xs
  count_one r t xs = go (item s (saying r []))
    where
      go : (i : Bool) → length (prepend_if i (saying r t) (select (item s) xs)) ≡ cond i 1 0 + count s xs
      go true = omega arith
      go false = omega arith

  in_group : Role → Role → Group → ℕ
  in_group n m g = if_item s n 1 + if_item s m (length g.members)

  in_link : Link → ℕ
  in_link i = if_item s Input 1

  in_rule : RuleText → ℕ
  in_rule r = if_item s RuleWord 1 + (if_item s UagNamed (length r.uags) + if_item s HagNamed (length r.hags))

  in_asg : Asg → ℕ
  in_asg a = if_item s AsgName 1 + (sum in_link a.inputs + sum in_rule a.rules)

  group_counts : (n m : Role) (g : Group) → count s (group_sayings n m g) ≡ in_group n m g
  unfolding in_group
  group_counts n m g = omega (arith, count_one n g.name (strings m g.members), count_strings m g.members)

  link_counts : (i : Link) → count s (link_sayings i) ≡ in_link i
  unfolding in_link
  link_counts i = omega (arith, count_one Input (link_word i.letter) (saying Pvname i.name ∷ []))

  calculation_counts : (o : Option (List ℕ)) → count s (calculation_sayings o) ≡ 0
  calculation_counts none = refl
  calculation_counts (some c) = refl

  unknown_counts : (b : Bool) → count s (unknown_sayings b) ≡ 0
  unknown_counts false = refl
  unknown_counts true = refl

  rule_counts : (r : RuleText) → count s (rule_sayings r) ≡ in_rule r
  unfolding in_rule
  rule_counts r =
      let last = calculation_sayings r.calculation ++ unknown_sayings (switched_off r) in
      omega (
        arith,
        count_one RuleWord (bytes "RULE") (head_sayings r ++ predicate_sayings r),
        count_append (strings UagNamed r.uags) (strings HagNamed r.hags ++ last),
        count_append (strings HagNamed r.hags) last,
        count_append (calculation_sayings r.calculation) (unknown_sayings (switched_off r)),
        count_strings UagNamed r.uags,
        count_strings HagNamed r.hags,
        calculation_counts r.calculation,
        unknown_counts (switched_off r),
      )

  asg_counts : (a : Asg) → count s (asg_sayings a) ≡ in_asg a
  unfolding in_asg
  asg_counts a =
      omega (
        arith,
        count_one AsgName a.name (links_sayings a ++ rules_sayings a),
        count_append (links_sayings a) (rules_sayings a),
        count_joined link_sayings in_link link_counts a.inputs,
        count_joined rule_sayings in_rule rule_counts a.rules,
      )

  file_counts :
      (f : File)
      → count s (file_sayings f) ≡ sum (in_group UagName User) f.uags + sum (in_group HagName Host) f.hags + sum in_asg f.asgs
  file_counts f =
      let us = joined (map (group_sayings UagName User) f.uags) in
      let hs = joined (map (group_sayings HagName Host) f.hags) in
      let asgs = joined (map asg_sayings f.asgs) in
      omega (
        arith,
        count_append us (hs ++ asgs),
        count_append hs asgs,
        count_joined (group_sayings UagName User) (in_group UagName User) (group_counts UagName User) f.uags,
        count_joined (group_sayings HagName Host) (in_group HagName Host) (group_counts HagName Host) f.hags,
        count_joined asg_sayings in_asg asg_counts f.asgs,
      )

-- ---- they are the records of the file

asg_items : Section → Asg → ℕ
asg_items user_groups a = 0
asg_items host_groups a = 0
asg_items members a = 0
asg_items access_groups a = 1
asg_items inputs a = length a.inputs
asg_items rules a = length a.rules
asg_items references a = sum (λ r. length (named_in r)) a.rules

-- a section of which an ASG has nothing but what its name adds
no_items : (s : Section) → ((i : Link) → in_link s i ≡ 0) → ((r : RuleText) → in_rule s r ≡ 0) → (a : Asg) → in_asg s a ≡ if_item s AsgName 1
unfolding in_asg
no_items s l r a = omega (arith, sum_none l a.inputs, sum_none r a.rules)

in_asg_is : (s : Section) (a : Asg) → in_asg s a ≡ asg_items s a
unfolding in_asg in_link in_rule asg_items
in_asg_is user_groups a = no_items user_groups (λ i. refl) (λ r. refl) a
in_asg_is host_groups a = no_items host_groups (λ i. refl) (λ r. refl) a
in_asg_is members a = no_items members (λ i. refl) (λ r. refl) a
in_asg_is access_groups a = no_items access_groups (λ i. refl) (λ r. refl) a
in_asg_is inputs a = omega (arith, sum_ones {v = in_link inputs} (λ i. refl) a.inputs, sum_none {v = in_rule inputs} (λ r. refl) a.rules)
in_asg_is rules a = omega (arith, sum_none {v = in_link rules} (λ i. refl) a.inputs, sum_ones {v = in_rule rules} (λ r. refl) a.rules)
in_asg_is references a =
    omega (
      arith,
      sum_none {v = in_link references} (λ i. refl) a.inputs,
      sum_same {v = in_rule references} {w = λ r. length (named_in r)} (λ r. omega (arith, length-append r.uags r.hags)) a.rules,
    )

-- the file has no more items than each section holds
few : (f : File) → Few f → (s : Section) → count s (file_sayings f) ≤ most s
unfolding in_group asg_items
few f k s = go s (file_counts s f) (sum_same (in_asg_is s) f.asgs)
  where
    references_in : sum (asg_items references) f.asgs ≡ length (joined (map named_in (joined (map (λ a. a.rules) f.asgs))))
    references_in =
        let rs = map (λ a. a.rules) f.asgs in
        let n : RuleText → ℕ = λ r. length (named_in r) in
        sym (length_each named_in (joined rs) ∙ (sum_joined n rs ∙ sum_map (sum n) (λ a. a.rules) f.asgs))

    go :
        (s : Section)
        → count s (file_sayings f) ≡ sum (in_group s UagName User) f.uags + sum (in_group s HagName Host) f.hags + sum (in_asg s) f.asgs
        → sum (in_asg s) f.asgs ≡ sum (asg_items s) f.asgs
        → count s (file_sayings f) ≤ most s
    go user_groups e h =
        omega (
          arith,
          sum_ones {v = in_group user_groups UagName User} (λ g. refl) f.uags,
          sum_none {v = in_group user_groups HagName Host} (λ g. refl) f.hags,
          sum_none {v = asg_items user_groups} (λ a. refl) f.asgs,
          k.uags,
        )
    go host_groups e h =
        omega (
          arith,
          sum_none {v = in_group host_groups UagName User} (λ g. refl) f.uags,
          sum_ones {v = in_group host_groups HagName Host} (λ g. refl) f.hags,
          sum_none {v = asg_items host_groups} (λ a. refl) f.asgs,
          k.hags,
        )
    go members e h =
        omega (
          arith,
          sum_same {v = in_group members UagName User} {w = λ g. length g.members} (λ g. omega arith) f.uags,
          sum_same {v = in_group members HagName Host} {w = λ g. length g.members} (λ g. omega arith) f.hags,
          length_each (λ g. g.members) f.uags,
          length_each (λ g. g.members) f.hags,
          sum_none {v = asg_items members} (λ a. refl) f.asgs,
          k.members,
        )
    go access_groups e h =
        omega (
          arith,
          sum_none {v = in_group access_groups UagName User} (λ g. refl) f.uags,
          sum_none {v = in_group access_groups HagName Host} (λ g. refl) f.hags,
          sum_ones {v = asg_items access_groups} (λ a. refl) f.asgs,
          k.asgs,
        )
    go inputs e h =
        omega (
          arith,
          sum_none {v = in_group inputs UagName User} (λ g. refl) f.uags,
          sum_none {v = in_group inputs HagName Host} (λ g. refl) f.hags,
          sum_same {v = asg_items inputs} {w = λ a. length a.inputs} (λ a. refl) f.asgs,
          length_each (λ a. a.inputs) f.asgs,
          k.inputs,
        )
    go rules e h =
        omega (
          arith,
          sum_none {v = in_group rules UagName User} (λ g. refl) f.uags,
          sum_none {v = in_group rules HagName Host} (λ g. refl) f.hags,
          sum_same {v = asg_items rules} {w = λ a. length a.rules} (λ a. refl) f.asgs,
          length_each (λ a. a.rules) f.asgs,
          k.rules,
        )
    go references e h =
        omega (
          arith,
          sum_none {v = in_group references UagName User} (λ g. refl) f.uags,
          sum_none {v = in_group references HagName Host} (λ g. refl) f.hags,
          references_in,
          k.references,
        )

pub file_fits : (f : File) → Few f → Onward Fits [] (file_sayings f)
file_fits f k = fits [] (file_sayings f) (λ s. omega (arith, few f k s))
