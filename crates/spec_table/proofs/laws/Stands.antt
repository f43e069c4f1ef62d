-- The table of a file that keeps to the limits is well formed.
use Rattle.std.specs.Prelude.{◌≡◌, refl, Bool, true, false, cond, ◌&&◌, ◌||◌, ℕ, suc, ◌+◌, ◌*◌, ◌≤◌, ◌<◌, min, eqb, ltb, length, take, get_or}
use Rattle.std.proofs.Common.{sym, ap, ap₂, ◌∙◌, arith, le-leb, lt-ltb}
use Rattle.std.proofs.Math.Bool.{or-true}
use mathlib.Core.List.{List, [], ◌∷◌, ◌++◌, map, append-nil, head-eq_of_cons-eq, tail-eq_of_cons-eq}
use Rattle.std.proofs.Math.Option
use Rattle.std.proofs.Math.Option.{Option, none, some}
use Rattle.std.proofs.lemmas.List.{length-map}
use Rattle.spec_lists.specs.Text.{same, lowered}
use Rattle.spec_lists.specs.Select.{all, joined, beside, beside₃}
use Rattle.spec_lists.specs.Runs.{Run, runs, part, spread}
use Rattle.spec_lists.proofs.laws.Joined.{length_runs, map_append, map_part, map_map, runs_map, beside_left, part_runs, part_spread}
use Rattle.spec_lists.specs.Every.{Every, nil, cons}
use Rattle.spec_lists.proofs.laws.Every.{every, every_map, every_implies, every_take, every_joined, every_all, every_at, every_both, every_split}
use Rattle.spec_lists.proofs.laws.Words.{Word, Row, end, word, row_append}
use Rattle.spec_lists.proofs.laws.Runs.{Within, runs_within, spread_within, runs_counts, spread_counts, runs_append, every_beside, every_beside₃, all_map}
use Rattle.spec_lists.proofs.laws.Runs.{beside_length}
use Rattle.spec_rule.specs.declared.Access.{Access}
use Rattle.spec_rule.specs.declared.Access.TheVariants as access
use Rattle.spec_rule.specs.Rule.{rank}
use Rattle.spec_rule.specs.Answering.{greatest_level}
use Rattle.spec_file.specs.Limit.{Section, user_groups, host_groups, members, access_groups, inputs, rules, references, most, most_bytes, longest_name}
use Rattle.spec_file.specs.Limit.{longest_calculation}
use Rattle.spec_file.specs.Contents.{Group, RuleText, Asg, File}
use Rattle.spec_file.specs.Meaning.{switched_off}
use Rattle.spec_table.specs.Layout.{Content, sections, width}
use Rattle.spec_table.specs.Check.{run_at, members_run, inputs_run, rules_run, users_run, hosts_run, number_field, permission_bits, bits_from_4}
use Rattle.spec_table.specs.Check.{no_calculation, name_run, in_turn, counts_fit, runs_stand, string_fits, named_sections, names_fit}
use Rattle.spec_table.specs.Check.{calculation_stands, numbers_fit, rule_stands, letters_stand, well_formed, undefined_number}
use Rattle.spec_token.specs.Word.{greatest_letter}
use Rattle.spec_table.specs.Written.{run_words, member_lists, all_links, all_rules, Reference, number_of, references_to, reference_lists, names, spots}
use Rattle.spec_table.specs.Written.{flag, flags, calculation_words, two_runs, records, content}
use Rattle.spec_table.proofs.laws.Fits.{CalculationFits, allowed, Fits}
use Rattle.spec_table.proofs.laws.Bytes.{Sound, each, in_turn_runs}

-- how many of each a file has
abbrev size : File → Section → ℕ
size f user_groups = length f.uags
size f host_groups = length f.hags
size f members = length (joined (member_lists f))
size f access_groups = length f.asgs
size f inputs = length (all_links f)
size f rules = length (all_rules f)
size f references = length (joined (reference_lists f))

-- what holds of 65,535 and of the numbers of the groups holds of every group number
number_case :
    (P : ℕ → Type 0) (k : ℕ) → P undefined_number → ((i : ℕ) → i < k → P i)
    → (n : ℕ) (s : List ℕ) (gs : List Group) → n + length gs ≤ k → P (number_of n s gs)
number_case P k u d n s [] h = u
number_case P k u d n s (g ∷ gs) h = go (same g.name s) (number_case P k u d (n + 1) s gs (omega arith))
  where
    go : (b : Bool) → P (number_of (n + 1) s gs) → P (cond b n (number_of (n + 1) s gs))
    go true q = d n (omega arith)
    go false q = q

references_case :
    (P : ℕ → Type 0) (gs : List Group) → P undefined_number → ((i : ℕ) → i < length gs → P i)
    → (ss : List (List ℕ)) → Every (λ r. P r.number) (references_to gs ss)
references_case P gs u d ss =
    every_map (λ s. record { number = number_of 0 s gs; name = s }) (every (λ s. number_case P (length gs) u d 0 s gs (omega arith)) ss)

-- a run's two words
abbrev Pair : Run → Type 0
Pair r = Row 2 (run_words r)

pair : (r : Run) → Within 65535 r → Pair r
pair r h = word {w = r.first} (omega arith) (word {w = r.count} (omega arith) end)

run_pairs : {A : Type 0} (n : ℕ) (xs : List (List A)) → n + length (joined xs) ≤ 65535 → Every Pair (runs n xs)
run_pairs n xs h = every_implies pair (runs_within 65535 n xs h)

calculation_row : (o : Option (List ℕ)) (r : Run) → Pair r → Row 2 (calculation_words o r)
calculation_row none r h = pair (record { first = 0; count = 0 }) (omega arith)
calculation_row (some s) r h = h

flag_bit : (b : Bool) (n : ℕ) → flag b n ≡ flag b 1 * n
flag_bit true n = omega arith
flag_bit false n = omega arith

a_bit : (b : Bool) → flag b 1 ≤ 1
a_bit true = omega arith
a_bit false = omega arith

a_rank : (a : Access) → rank a ≤ 2
a_rank access.None = omega arith
a_rank access.Read = omega arith
a_rank access.Write = omega arith

flags_right : (r : RuleText) → r.level ≤ 1 → (permission_bits (flags r) < 3) × (bits_from_4 (flags r) < 2)
flags_right r l =
    omega (arith, flag_bit r.trap 8, a_bit r.trap, flag_bit (switched_off r) 16, a_bit (switched_off r), a_rank r.permission)

-- what is asked of each record of a section
abbrev asked : Content → Section → List ℕ → Bool
asked c user_groups row = string_fits c longest_name (name_run user_groups row)
asked c host_groups row = string_fits c longest_name (name_run host_groups row)
asked c members row = string_fits c longest_name (name_run members row)
asked c access_groups row = string_fits c longest_name (name_run access_groups row)
asked c inputs row = string_fits c longest_name (name_run inputs row)
asked c rules row = rule_stands c row
asked c references row = string_fits c longest_name (name_run references row)

-- a record's words are words, and it is as asked
abbrev Good : Content → Section → List ℕ → Type 0
Good c s row = Row (width s) row × (asked c s row ≡ true)

-- a name's words are words, and it lies in the strings
abbrev Named : Content → ℕ → Run → Type 0
Named c m r = Pair r × (string_fits c m r ≡ true)

calculation_right :
    (c : Content) (o : Option (List ℕ)) (r : Run) → CalculationFits o → string_fits c longest_calculation r ≡ true → part r c.strings ≡ Option.get_or o []
    → calculation_stands c (run_at 0 (calculation_words o r)) ≡ true
calculation_right c none r fits h e = refl
calculation_right c (some s) r (allowed l t) h e = rw (h, e, t) (or-true (no_calculation r))

-- the calculations of rules
abbrev calculations : List RuleText → List (List ℕ)
calculations = map (λ r. Option.get_or r.calculation [])

min_self : (n : ℕ) → min n n ≡ n
min_self n = omega arith

ruleset sizes = (beside_length, length_runs, length-map, min_self)

module _ (f : File) where
  abbrev strings : List ℕ
  strings = joined (joined (names f))

  -- a rule's references
  abbrev users : RuleText → List Reference
  users r = references_to f.uags r.uags

  abbrev hosts : RuleText → List Reference
  hosts r = references_to f.hags r.hags

  abbrev lists : List RuleText → List (List Reference)
  lists rs = joined (map (λ r. users r ∷ hosts r ∷ []) rs)

  -- the records of rules from the reference n and the byte m on
  abbrev rule_rows : ℕ → ℕ → List RuleText → List (List ℕ)
  rule_rows n m rs =
      beside₃
      (λ r refs calc. flags r ∷ (refs ++ calculation_words r.calculation calc))
      rs
      (two_runs (runs n (lists rs)))
      (runs m (calculations rs))

  rule_count : (n m : ℕ) (rs : List RuleText) → length (rule_rows n m rs) ≡ length rs
  rule_count n m [] = refl
  rule_count n m (r ∷ rs) = ap suc (rule_count (n + length (users r) + length (hosts r)) (m + length (Option.get_or r.calculation [])) rs)

  reference_runs : (n m : ℕ) (rs : List RuleText) → joined (map (λ row. users_run row ∷ hosts_run row ∷ []) (rule_rows n m rs)) ≡ runs n (lists rs)
  reference_runs n m [] = refl
  reference_runs n m (r ∷ rs) = rw (reference_runs (n + length (users r) + length (hosts r)) (m + length (Option.get_or r.calculation [])) rs)

  counted : (s : Section) → length (records f s) ≡ size f s
  counted =
      each
      (λ s. length (records f s) ≡ size f s)
      (simp sizes)
      (simp sizes)
      (simp sizes)
      (simp sizes)
      (simp sizes)
      (rule_count _ _ (all_rules f))
      (simp sizes)

  -- the numbers of a rule's references lie in their section
  numbers_right :
      (s : Section) (gs : List Group) → length gs ≡ size f s → (r : Run) (ss : List (List ℕ)) → part r (joined (reference_lists f)) ≡ references_to gs ss
      → numbers_fit (content f) s r ≡ true
  numbers_right s gs l r ss e =
      all_map fits number_field (part r (records f references))
      ∙ ap
      (all fits)
      (map_part number_field r (records f references)
      ∙ ap
      (part r)
      (beside_left (λ x name. x.number ∷ run_words name) number_field (λ x. x.number) (λ x name. refl) (joined (reference_lists f)) (spots f 5) (simp sizes))
      ∙ sym (map_part (λ x. x.number) r (joined (reference_lists f)))
      ∙ ap (map (λ x. x.number)) e)
      ∙ every_all
      fits
      (every_map
      (λ x. x.number)
      (references_case (λ w. fits w ≡ true) gs refl (λ i h. rw (lt-ltb i (length (records f s)) (omega (arith, counted s))) (or-true (eqb i undefined_number))) ss))
    where
      fits : ℕ → Bool
      fits w = eqb w undefined_number || ltb w (length (records f s))

  rules_good :
      (n m : ℕ) (rs : List RuleText)
      → Every (λ r. r.level ≤ greatest_level) rs
      → Every (λ r. CalculationFits r.calculation) rs
      → Every Pair (runs n (lists rs))
      → Every (Named (content f) longest_calculation) (runs m (calculations rs))
      → map (λ r. part r (joined (reference_lists f))) (runs n (lists rs)) ≡ lists rs
      → map (λ r. part r strings) (runs m (calculations rs)) ≡ calculations rs
      → Every (Good (content f) rules) (rule_rows n m rs)
  rules_good n m [] l a p q d e = nil
  rules_good n m (r ∷ rs) (cons l ls) (cons a c) (cons p (cons q ps)) (cons t ts) d e =
      let bits = flags_right r l in
      cons (
        word
            {w = flags r}
            (omega arith)
            (row_append (row_append p q) (calculation_row r.calculation (record { first = m; count = length (Option.get_or r.calculation []) }) t.0)),
        ap₂
            ◌&&◌
            (ap₂ ◌&&◌ (lt-ltb (permission_bits (flags r)) 3 bits.0) (lt-ltb (bits_from_4 (flags r)) 2 bits.1))
            (ap₂
            ◌&&◌
            (calculation_right
            (content f)
            r.calculation
            (record { first = m; count = length (Option.get_or r.calculation []) }) a
            t.1
            (head-eq_of_cons-eq e))
            (ap₂
            ◌&&◌
            (numbers_right user_groups f.uags refl (record { first = n; count = length (users r) }) r.uags (head-eq_of_cons-eq d))
            (numbers_right host_groups f.hags refl (record { first = n + length (users r); count = length (hosts r) }) r.hags (head-eq_of_cons-eq (tail-eq_of_cons-eq d))))),
      )
      (rules_good
      (n + length (users r) + length (hosts r))
      (m + length (Option.get_or r.calculation []))
      rs
      ls
      c
      ps
      ts
      (tail-eq_of_cons-eq (tail-eq_of_cons-eq d))
      (tail-eq_of_cons-eq e))

  member_runs :
      runs 0 (map (λ g. g.members) f.uags) ++ runs (length (joined (map (λ g. g.members) f.uags))) (map (λ g. g.members) f.hags)
      ≡ runs 0 (member_lists f)
  member_runs =
      ap
      (λ (rs : List Run). runs 0 users ++ rs)
      (sym (runs_map lowered (length (joined users)) (map (λ g. g.members) f.hags))
      ∙ ap (runs (length (joined users))) (map_map (map lowered) (λ g. g.members) f.hags))
      ∙ runs_append 0 (length (joined users)) users (map (λ g. map lowered g.members) f.hags) (omega arith)
    where
      users : List (List (List ℕ))
      users = map (λ g. g.members) f.uags

  group_runs :
      (n m : ℕ) (gs : List Group)
      → map members_run (beside (λ name run. run_words name ++ run_words run) (runs n (map (λ g. g.name) gs)) (runs m (map (λ g. g.members) gs)))
      ≡ runs m (map (λ g. g.members) gs)
  group_runs n m [] = refl
  group_runs n m (g ∷ gs) = rw (group_runs (n + length g.name) (m + length g.members) gs)

  -- the records of access groups from the byte n, the input i and the rule k on
  abbrev group_rows : ℕ → ℕ → ℕ → List Asg → List (List ℕ)
  group_rows n i k gs =
      beside₃
      (λ name i r. run_words name ++ (run_words i ++ run_words r))
      (runs n (map (λ a. a.name) gs))
      (runs i (map (λ a. a.inputs) gs))
      (runs k (map (λ a. a.rules) gs))

  input_runs : (n i k : ℕ) (gs : List Asg) → map inputs_run (group_rows n i k gs) ≡ runs i (map (λ a. a.inputs) gs)
  input_runs n i k [] = refl
  input_runs n i k (a ∷ gs) = rw (input_runs (n + length a.name) (i + length a.inputs) (k + length a.rules) gs)

  rule_runs : (n i k : ℕ) (gs : List Asg) → map rules_run (group_rows n i k gs) ≡ runs k (map (λ a. a.rules) gs)
  rule_runs n i k [] = refl
  rule_runs n i k (a ∷ gs) = rw (rule_runs (n + length a.name) (i + length a.inputs) (k + length a.rules) gs)

module _ (f : File) (ok : Fits f) where
  few : (s : Section) → length (records f s) ≤ most s
  few s =
      rw
      (counted f s)
      (each
      (λ s. size f s ≤ most s)
      ok.uag_count
      ok.hag_count
      ok.member_count
      ok.asg_count
      ok.input_count
      ok.rule_count
      ok.reference_count
      s)

  named_runs : (m : ℕ) {rs : List Run} → Every (Within (length (strings f))) rs → Every (λ r. r.count ≤ m) rs → Every (Named (content f) m) rs
  named_runs m e d =
      every_both
      (λ r p q. (pair r (omega (arith, ok.string_bytes)), ap₂ ◌&&◌ (le-leb (r.first + r.count) (length (strings f)) p) (le-leb r.count m q))) e d

  all_within : Every (Every (Within (length (strings f)))) (spread 0 (names f))
  all_within = spread_within (length (strings f)) 0 (names f) (omega arith)

  -- where the names of six kinds stand
  named : (k : ℕ) → Every (Named (content f) longest_name) (get_or (spread 0 (take 6 (names f))) k [])
  named k = every_at k [] nil (every_both (λ rs. named_runs longest_name) (every_take 6 all_within) (spread_counts 0 ok.name_lengths))

  calculated : Every (Named (content f) longest_calculation) (spots f 6)
  calculated =
      named_runs longest_calculation
      (every_at 6 [] nil all_within)
      (runs_counts _ (every_map (λ r. Option.get_or r.calculation []) (every_implies (λ r. short r.calculation) ok.calculations)))
    where
      short : (o : Option (List ℕ)) → CalculationFits o → length (Option.get_or o []) ≤ longest_calculation
      short none fits = omega arith
      short (some s) (allowed l t) = l

  member_pairs :
      Every Pair (runs 0 (map (λ g. g.members) f.uags) ++ runs (length (joined (map (λ g. g.members) f.uags))) (map (λ g. g.members) f.hags))
  member_pairs = rw (member_runs f) (run_pairs 0 (member_lists f) (omega (arith, ok.member_count)))

  numbered : Every (λ r. Word r.number) (joined (reference_lists f))
  numbered =
      every_joined
      (every_joined
      (every_map
      (λ r. users f r ∷ hosts f r ∷ [])
      (every (λ r. cons (references_case Word f.uags (omega arith) (λ i h. omega (arith, ok.uag_count)) r.uags) (cons (references_case Word f.hags (omega arith) (λ i h. omega (arith, ok.hag_count)) r.hags) nil)) (all_rules f))))

  good : (s : Section) → Every (Good (content f) s) (records f s)
  good =
      each
      (λ s. Every (Good (content f) s) (records f s))
      (every_beside _ (λ name run p q. (row_append p.0 q, p.1)) (named 0) (every_split (runs 0 (map (λ g. g.members) f.uags)) member_pairs).0)
      (every_beside _ (λ name run p q. (row_append p.0 q, p.1)) (named 1) (every_split (runs 0 (map (λ g. g.members) f.uags)) member_pairs).1)
      (every_map run_words (named 2))
      (every_beside₃ _ (λ name i r p q t. (row_append p.0 (row_append q t), p.1)) (named 3)
      (run_pairs 0 (map (λ a. a.inputs) f.asgs) (omega (arith, ok.input_count)))
      (run_pairs 0 (map (λ a. a.rules) f.asgs) (omega (arith, ok.rule_count))))
      (every_beside _ (λ i name p q. (word {w = i.letter} (omega arith) q.0, q.1)) ok.letters (named 4))
      (rules_good f 0 _
      (all_rules f)
      ok.levels
      ok.calculations
      (run_pairs 0 (reference_lists f) (omega (arith, ok.reference_count))) calculated
      (rw append-nil at (part_runs [] (reference_lists f) []))
      (ap (λ (l : List (List (List ℕ))). get_or l 6 []) (rw append-nil at (part_spread [] (names f) []))))
      (every_beside {P = λ r. Word r.number} _ (λ r name p q. (word p q.0, q.1)) numbered (named 5))

  tests : (s : Section) → all (asked (content f) s) (records f s) ≡ true
  tests s = every_all (asked (content f) s) (every_implies (λ row p. p.1) (good s))

  pub content_sound : Sound (content f)
  content_sound = record { rows = λ s. every_implies (λ row p. p.0) (good s); count = few; string_bytes = ok.string_bytes }

  counts_right : counts_fit (content f) ≡ true
  counts_right =
      ap₂ ◌&&◌
      (every_all _ (every (λ s. le-leb (length (records f s)) (most s) (few s)) sections))
      (le-leb (length (strings f)) most_bytes ok.string_bytes)

  -- runs that follow each other use up their section
  follow :
      {A : Type 0} (s : Section) (xs : List (List A)) → length (joined xs) ≡ size f s → {rs : List Run} → rs ≡ runs 0 xs
      → in_turn 0 rs (length (records f s)) ≡ true
  follow s xs l e = ap (λ (rs : List Run). in_turn 0 rs (length (records f s))) e ∙ in_turn_runs 0 (length (records f s)) xs (omega (arith, counted f s))

  runs_right : runs_stand (content f) ≡ true
  runs_right =
      ap₂
      ◌&&◌
      (follow
      members
      (member_lists f)
      refl
      (map_append members_run (records f user_groups) (records f host_groups) ∙ ap₂ ◌++◌ (group_runs f _ _ f.uags) (group_runs f _ _ f.hags) ∙ member_runs f))
      (ap₂
      ◌&&◌
      (follow inputs (map (λ a. a.inputs) f.asgs) refl (input_runs f _ _ _ f.asgs))
      (ap₂
      ◌&&◌
      (follow rules (map (λ a. a.rules) f.asgs) refl (rule_runs f _ _ _ f.asgs))
      (follow references (reference_lists f) refl (reference_runs f _ _ (all_rules f)))))

  names_right : names_fit (content f) ≡ true
  names_right = every_all (λ s. all (asked (content f) s) (records f s)) (every tests named_sections)

  letters_right : letters_stand (content f) ≡ true
  letters_right = every_all _ (every_beside _ (λ i name p q. le-leb i.letter greatest_letter p) ok.letters (named 4))

  pub content_stands : well_formed (content f) ≡ true
  content_stands = ap₂ ◌&&◌ counts_right (ap₂ ◌&&◌ runs_right (ap₂ ◌&&◌ names_right (ap₂ ◌&&◌ letters_right (tests rules))))
