-- The content of a file has the file's groups and rules: what is written is read again.
use Rattle.std.specs.Prelude.{◌≡◌, refl, Bool, true, false, cond, ◌&&◌, List, [], ◌∷◌, ◌++◌, map, ℕ, zero, suc, ◌+◌, ◌*◌, ◌≤◌, eqb, length, take, drop, get_or}
use Rattle.std.proofs.Common.{sym, ap, ap₂, ◌∙◌, true≢false, append-nil, arith, add-zero, ne_eqb, get_or-drop, drop-drop}
use Rattle.std.proofs.Math.Option
use Rattle.std.proofs.Math.Option.{Option, none, some}
use Rattle.std.proofs.Math.Dec.{eqb-suc-zero}
use Rattle.std.proofs.lemmas.List.{length-map}
use Rattle.std.proofs.Math.ListN.{get_or-map}
use Rattle.spec_lists.specs.Text.{same, lowered}
use Rattle.spec_lists.specs.Select.{joined, beside, beside₃, first_if}
use Rattle.spec_lists.specs.Runs.{Run, runs, part}
use Rattle.spec_lists.specs.Every.{Every, nil, cons}
use Rattle.spec_lists.proofs.laws.Every.{every_both}
use Rattle.spec_lists.proofs.laws.Joined.{joined_append, length_runs, map_part, map_map, map_joined, part_runs, beside_left, beside_right}
use Rattle.spec_lists.proofs.laws.Alike.{Alike, nil₂, cons₂, map_same, alike, beside₃_alike, parts_of, parts_spread, runs_alike}
use Rattle.spec_calc.specs.Reader.{tree_of}
use Rattle.spec_rule.specs.declared.Access.{Access}
use Rattle.spec_rule.specs.declared.Access.TheVariants as access
use Rattle.spec_rule.specs.Rule.{rank}
use Rattle.spec_rule.specs.Answering.{named, or_default, answering, default_name}
use Rattle.spec_file.specs.Limit.{Section, user_groups, host_groups, members, access_groups, inputs, rules, references}
use Rattle.spec_file.specs.Contents.{Group, Link, RuleText, Asg, File}
use Rattle.spec_file.specs.Meaning.{members_in, switched_off, rule_in}
use Rattle.spec_table.specs.Layout.{Content}
use Rattle.spec_table.specs.Check.{run_at, inputs_run, rules_run, letter_field, number_field, level_bit, permission_bits, trap_bit, bits_from_4, undefined_number}
use Rattle.spec_table.specs.Check.{no_calculation}
use Rattle.spec_table.specs.Policy.{string, name, members_of, referred, permission, set_bit, rule_of, rules_of}
use Rattle.spec_table.specs.Written.{run_words, member_lists, all_links, all_rules, Reference, number_of, references_to, reference_lists, names, spots}
use Rattle.spec_table.specs.Written.{flag, flags, calculation_words, two_runs, records, content}
use Rattle.spec_table.proofs.laws.Fits.{CalculationFits, allowed, Fits}

-- ---- which group answers

module _ {G H W : Type 0} (name_of : G → List ℕ) (name_of' : H → List ℕ) (val : G → W) (val' : H → W) where
  named_kept :
      (n : List ℕ) (gs : List G) (hs : List H) → map name_of gs ≡ map name_of' hs → map val gs ≡ map val' hs
      → Option.map val (named name_of n gs) ≡ Option.map val' (named name_of' n hs)
  named_kept n [] [] es vs = refl
  named_kept n [] (h ∷ hs) es vs = cc
  named_kept n (g ∷ gs) [] es vs = cc
  named_kept n (g ∷ gs) (h ∷ hs) es vs =
      let e : name_of g ≡ name_of' h = cc in
      let v : val g ≡ val' h = cc in
      rw e (go v (same (name_of' h) n) (named name_of n gs) (named name_of' n hs) (named_kept n gs hs (cc) (cc)))
    where
      go :
          val g ≡ val' h → (b : Bool) (o : Option G) (o' : Option H) → Option.map val o ≡ Option.map val' o'
          → Option.map val (first_if b g o) ≡ Option.map val' (first_if b h o')
      go v true o o' p = cc
      go v false o o' p = p

  -- groups of the same names and values, one by one, answer alike
  pub answering_kept :
      (n : List ℕ) (gs : List G) (hs : List H) → map name_of gs ≡ map name_of' hs → map val gs ≡ map val' hs
      → Option.map val (answering name_of n gs) ≡ Option.map val' (answering name_of' n hs)
  answering_kept [] gs hs es vs = named_kept default_name gs hs es vs
  answering_kept (b ∷ n) gs hs es vs = go (named name_of (b ∷ n) gs) (named name_of' (b ∷ n) hs) (named_kept (b ∷ n) gs hs es vs)
    where
      go :
          (o : Option G) (o' : Option H) → Option.map val o ≡ Option.map val' o'
          → Option.map val (or_default name_of o gs) ≡ Option.map val' (or_default name_of' o' hs)
      go none none p = named_kept default_name gs hs es vs
      go none (some h) p = cc
      go (some g) none p = cc
      go (some g) (some h) p = p

-- ---- fields of a rule

-- each part of the flags is read again
flag_bits :
    (l p : ℕ) (t o : Bool) → l ≤ 1 → p ≤ 2
    → let k : ℕ = l + p * 2 + flag t 8 + flag o 16 in (level_bit k ≡ l) × (permission_bits k ≡ p) × (trap_bit k ≡ flag t 1) × (bits_from_4 k ≡ flag o 1)
flag_bits l p true true h k = omega arith
flag_bits l p true false h k = omega arith
flag_bits l p false true h k = omega arith
flag_bits l p false false h k = omega arith

set_flag : (b : Bool) → set_bit (flag b 1) ≡ b
set_flag true = refl
set_flag false = refl

pub permission_rank : (a : Access) → permission (rank a) ≡ a
permission_rank access.None = refl
permission_rank access.Read = refl
permission_rank access.Write = refl

rank_most : (a : Access) → rank a ≤ 2
rank_most access.None = omega arith
rank_most access.Read = omega arith
rank_most access.Write = omega arith

-- an allowed calculation is not empty, so its run is not 0, 0
calculation_read :
    (c : Content) → tree_of [] ≡ none → (o : Option (List ℕ)) (r : Run) → CalculationFits o → string c r ≡ Option.get_or o []
    → let q : Run = run_at 0 (calculation_words o r) in cond (no_calculation q) none (some (string c q)) ≡ o
calculation_read c e none r fit s = refl
calculation_read c e (some t) r (allowed short fine) s = go (eqb r.first 0) r.count s
  where
    go : (b : Bool) (n : ℕ) → take n (drop r.first c.strings) ≡ t → cond (b && eqb n 0) none (some (take n (drop r.first c.strings))) ≡ some t
    go b zero p = absurd (true≢false (rw (← p, e) at fine))
    go true (suc n) p = rw (eqb-suc-zero n) (ap {B = Option (List ℕ)} some p)
    go false (suc n) p = ap {B = Option (List ℕ)} some p

-- ---- references

module _ (c : Content) (sec : Section) (val : Option Group → List (List ℕ)) (empty : val none ≡ []) where
  -- the number of a group leads to its members
  numbered :
      (s : List ℕ) (n : ℕ) (gs : List Group) → drop n (map (members_of c) (c.records sec)) ≡ map (λ g. val (some g)) gs → n + length gs ≤ undefined_number
      → referred c sec (number_of n s gs ∷ []) ≡ val (named (λ g. g.name) s gs)
  numbered s n [] e h = sym empty
  numbered s n (g ∷ gs) e h =
      go
      (same g.name s)
      (numbered s (n + 1) gs (sym (drop-drop 1 n (map (members_of c) (c.records sec))) ∙ ap (λ (l : List (List (List ℕ))). drop 1 l) e) (omega arith))
    where
      here : referred c sec (n ∷ []) ≡ val (some g)
      here =
          rw (
            ne_eqb n undefined_number
                (λ q. omega arith),
            ← get_or-map
                (members_of c)
                (c.records sec) n [],
            ← add-zero n,
            ← get_or-drop n
                (map (members_of c) (c.records sec)) 0
                (members_of c []),
            e,
          )

      go :
          (b : Bool) → referred c sec (number_of (n + 1) s gs ∷ []) ≡ val (named (λ x. x.name) s gs)
          → referred c sec (cond b n (number_of (n + 1) s gs) ∷ []) ≡ val (first_if b g (named (λ x. x.name) s gs))
      go true p = here
      go false p = p

  -- so does each number of a run of references
  referred_read :
      (gs : List Group) → map (members_of c) (c.records sec) ≡ map (λ g. val (some g)) gs → length gs ≤ undefined_number
      → (r : Run) (ns : List (List ℕ)) → map number_field (part r (c.records references)) ≡ map (λ x. x.number) (references_to gs ns)
      → map (referred c sec) (part r (c.records references)) ≡ map (λ n. val (named (λ g. g.name) n gs)) ns
  referred_read gs es h r ns e =
      sym (map_map look number_field (part r (c.records references)))
      ∙ ap (map look) e
      ∙ simp map_map (map_same (λ s. numbered s 0 gs es (omega arith)) ns)
    where
      look : ℕ → List (List ℕ)
      look k = referred c sec (k ∷ [])

-- ---- groups and their members

module _ (f : File) where
  -- the strings of the n-th list of names stand in its spots
  pub strings_kept : (n : ℕ) → map (string (content f)) (spots f n) ≡ get_or (names f) n []
  strings_kept = parts_spread (names f)

  pub spots_length : (n : ℕ) → length (spots f n) ≡ length (get_or (names f) n [])
  spots_length n = sym (length-map (spots f n) (string (content f))) ∙ ap length (strings_kept n)

  -- groups whose runs rs hold xs among all members have these members
  members_kept :
      (n : ℕ) (rs : List Run) {xs : List (List (List ℕ))} → length (get_or (names f) n []) ≡ length rs
      → map (λ r. part r (joined (member_lists f))) rs ≡ xs
      → map (members_of (content f)) (beside (λ name run. run_words name ++ run_words run) (spots f n) rs) ≡ xs
  members_kept n rs l e =
      beside_right
      (λ name run. run_words name ++ run_words run)
      (members_of (content f))
      (λ r. part r (joined (member_lists f)))
      (λ x r.
      map_part (name (content f) members) r (records f members) ∙ ap (part r) (map_map (name (content f) members) run_words (spots f 2) ∙ strings_kept 2))
      (spots f n)
      rs
      (spots_length n ∙ l)
      ∙ e

  pub uags_kept : map (members_of (content f)) (records f user_groups) ≡ map (λ g. g.members) f.uags
  uags_kept = members_kept 0 _ (simp (length_runs, length-map)) (rw joined_append (part_runs [] (map (λ g. g.members) f.uags) _))

  pub hags_kept : map (members_of (content f)) (records f host_groups) ≡ map (λ g. map lowered g.members) f.hags
  hags_kept =
      members_kept
      1
      _
      (simp (length_runs, length-map))
      (rw
      (joined_append, ← map_map (map lowered) (λ g. g.members) f.hags, ← map_joined lowered)
      (parts_of lowered (joined (map (λ g. g.members) f.uags)) (map (λ g. g.members) f.hags)))

-- ---- rules

-- what is read of all references is read of each run of them
pub references_kept :
    {W : Type 0} (f : File) (g : List ℕ → W) (h : Reference → W) → map g (records f references) ≡ map h (joined (reference_lists f))
    → Alike (λ r l. map g (part r (records f references)) ≡ map h l) (runs 0 (reference_lists f)) (reference_lists f)
references_kept f g h e =
    alike
    (λ r. map g (part r (records f references)))
    (map h)
    (runs 0 (reference_lists f))
    (reference_lists f)
    (map_same (λ r. map_part g r (records f references) ∙ ap (part r) e) (runs 0 (reference_lists f)) ∙ parts_of h [] (reference_lists f))

-- a run of references has the numbers of l
abbrev Numbers : File → Run → List Reference → Type 0
Numbers f r l = map number_field (part r (records f references)) ≡ map (λ x. x.number) l

numbers_kept : (f : File) → Alike (Numbers f) (runs 0 (reference_lists f)) (reference_lists f)
numbers_kept f =
    references_kept f number_field (λ r. r.number)
    (beside_left
    (λ r name. r.number ∷ run_words name)
    number_field
    (λ r. r.number)
    (λ x y. refl)
    (joined (reference_lists f))
    (spots f 5)
    (sym (spots_length f 5 ∙ length-map (joined (reference_lists f)) (λ r. r.name))))

-- what is read of a rule's record, by its references and its calculation, is read of all rule records
pub rows_kept :
    {W : Type 0} {P : RuleText → Type 0} {N : Run → List Reference → Type 0} (f : File) (g : List ℕ → W) (k : RuleText → W)
    → ((r : RuleText) (u h q : Run) → P r → N u (references_to f.uags r.uags) → N h (references_to f.hags r.hags)
    → string (content f) q ≡ Option.get_or r.calculation []
    → g (flags r ∷ ((run_words u ++ run_words h) ++ calculation_words r.calculation q)) ≡ k r)
    → Every P (all_rules f) → Alike N (runs 0 (reference_lists f)) (reference_lists f) → map g (records f rules) ≡ map k (all_rules f)
rows_kept {P = P} {N = N} f g k e ps ns =
    go ps ns (alike (string (content f)) (λ r. Option.get_or r.calculation []) (spots f 6) (all_rules f) (strings_kept f 6))
  where
    go :
        {rs : List RuleText} {xs qs : List Run} → Every P rs
        → Alike N xs (joined (map (λ r. references_to f.uags r.uags ∷ references_to f.hags r.hags ∷ []) rs))
        → Alike (λ q r. string (content f) q ≡ Option.get_or r.calculation []) qs rs
        → map g (beside₃ (λ r refs calc. flags r ∷ (refs ++ calculation_words r.calculation calc)) rs (two_runs xs) qs) ≡ map k rs
    go nil nil₂ nil₂ = refl
    go (cons {x = r} p ps) (cons₂ {x = u} us (cons₂ {x = h} hs refs)) (cons₂ {x = q} s ss) = cc (e r u h q p us hs s, go ps refs ss)

module _ (f : File) (fits : Fits f) (no_empty : tree_of [] ≡ none) where
  rule_kept :
      (r : RuleText) (u h q : Run) → CalculationFits r.calculation → r.level ≤ 1 → Numbers f u (references_to f.uags r.uags)
      → Numbers f h (references_to f.hags r.hags) → string (content f) q ≡ Option.get_or r.calculation []
      → rule_of (content f) (flags r ∷ ((run_words u ++ run_words h) ++ calculation_words r.calculation q)) ≡ rule_in f r
  rule_kept r u h q fit low us hs s =
      let bits = flag_bits r.level (rank r.permission) r.trap (switched_off r) low (rank_most r.permission) in
      λ i.
      record {
        level = bits.0 i;
        permission = (ap permission bits.1 ∙ permission_rank r.permission) i;
        trap = (ap set_bit bits.2 ∙ set_flag r.trap) i;
        switched_off = (ap set_bit bits.3 ∙ set_flag (switched_off r)) i;
        uags = referred_read (content f) user_groups members_in refl f.uags (uags_kept f) (omega (arith, fits.uag_count)) u r.uags us i;
        hags =
            referred_read
            (content f) host_groups
            (λ o. map lowered (members_in o)) refl
            f.hags
            (hags_kept f)
            (omega (arith, fits.hag_count)) h
            r.hags hs i;
        calculation = calculation_read (content f) no_empty r.calculation q fit s i;
      }

  pub rule_records_kept : map (rule_of (content f)) (records f rules) ≡ map (rule_in f) (all_rules f)
  rule_records_kept =
      rows_kept {P = λ r. CalculationFits r.calculation × (r.level ≤ 1)} f (rule_of (content f)) (rule_in f)
      (λ r u h q p us hs s. rule_kept r u h q p.0 p.1 us hs s)
      (every_both (λ r c l. (c, l)) fits.calculations fits.levels)
      (numbers_kept f)

-- ---- access groups

-- what the names, the runs of inputs and the runs of rules say
pub asgs_kept :
    {W : Type 0} {Q R : Run → Asg → Type 0} (f : File) (g : List ℕ → W) (h : Asg → W)
    → ((n i r : Run) (a : Asg) → string (content f) n ≡ a.name → Q i a → R r a → g (run_words n ++ (run_words i ++ run_words r)) ≡ h a)
    → Alike Q (runs 0 (map (λ a. a.inputs) f.asgs)) f.asgs → Alike R (runs 0 (map (λ a. a.rules) f.asgs)) f.asgs
    → map g (records f access_groups) ≡ map h f.asgs
asgs_kept f g h e qs rs =
    beside₃_alike
    (λ name i r. run_words name ++ (run_words i ++ run_words r))
    g
    h
    (λ n i r a s t u. e n i r a s t u)
    (alike (string (content f)) (λ a. a.name) (spots f 3) f.asgs (strings_kept f 3))
    qs
    rs

-- ---- inputs

-- the input of an input record, and the inputs of an access group
abbrev pub link_of : Content → List ℕ → Link
link_of c row = record { letter = letter_field row; name = name c inputs row }

abbrev pub links_of : Content → List ℕ → List Link
links_of c row = map (link_of c) (part (inputs_run row) (c.records inputs))

input_rows_kept :
    (f : File) {ls : List Link} {qs : List Run} → Alike (λ q l. string (content f) q ≡ l.name) qs ls
    → map (link_of (content f)) (beside (λ i name. i.letter ∷ run_words name) ls qs) ≡ ls
input_rows_kept f nil₂ = refl
input_rows_kept f (cons₂ {y = l} e es) = ap₂ (λ (n : List ℕ) (ls : List Link). record { letter = l.letter; name = n } ∷ ls) e (input_rows_kept f es)

input_records_kept : (f : File) → map (link_of (content f)) (records f inputs) ≡ all_links f
input_records_kept f = input_rows_kept f (alike (string (content f)) (λ l. l.name) (spots f 4) (all_links f) (strings_kept f 4))

-- the access groups have their names
pub names_kept : (f : File) → map (name (content f) access_groups) (records f access_groups) ≡ map (λ a. a.name) f.asgs
names_kept f =
    asgs_kept f
    (name (content f) access_groups)
    (λ a. a.name)
    (λ n i r a s t u. s)
    (runs_alike (λ a. a.inputs) f.asgs)
    (runs_alike (λ a. a.rules) f.asgs)

-- and what is read of their rules, if it is read of all rules
pub rule_lists_kept :
    {W : Type 0} (f : File) (g : List ℕ → W) (h : RuleText → W) → map g (records f rules) ≡ map h (all_rules f)
    → map (λ row. map g (part (rules_run row) (records f rules))) (records f access_groups) ≡ map (λ a. map h a.rules) f.asgs
rule_lists_kept f g h e =
    asgs_kept
    f
    (λ row. map g (part (rules_run row) (records f rules)))
    (λ a. map h a.rules)
    (λ n i r a s t u. map_part g r (records f rules) ∙ ap (part r) e ∙ u)
    (runs_alike (λ a. a.inputs) f.asgs)
    (alike
    (λ r. part r (map h (all_rules f)))
    (λ a. map h a.rules)
    (runs 0 (map (λ a. a.rules) f.asgs))
    f.asgs
    (parts_of h [] (map (λ a. a.rules) f.asgs) ∙ map_map (map h) (λ a. a.rules) f.asgs))

-- and their rules
pub rules_kept :
    (f : File) → Fits f → tree_of [] ≡ none
    → map (rules_of (content f)) (records f access_groups) ≡ map (λ a. map (rule_in f) a.rules) f.asgs
rules_kept f fits no_empty = rule_lists_kept f (rule_of (content f)) (rule_in f) (rule_records_kept f fits no_empty)

-- and their inputs
pub links_kept : (f : File) → map (links_of (content f)) (records f access_groups) ≡ map (λ a. a.inputs) f.asgs
links_kept f =
    asgs_kept
    f
    (links_of (content f))
    (λ a. a.inputs)
    (λ n i r a s t u. map_part (link_of (content f)) i (records f inputs) ∙ ap (part i) (input_records_kept f ∙ sym (append-nil (all_links f))) ∙ t)
    (runs_alike (λ a. a.inputs) f.asgs)
    (runs_alike (λ a. a.rules) f.asgs)

-- so the group that answers a question has the same rules
pub answering_rules :
    (f : File) → Fits f → tree_of [] ≡ none → (g : List ℕ)
    → Option.map (rules_of (content f)) (answering (name (content f) access_groups) g (records f access_groups))
    ≡ Option.map (λ a. map (rule_in f) a.rules) (answering (λ a. a.name) g f.asgs)
answering_rules f fits no_empty g =
    answering_kept
    (name (content f) access_groups)
    (λ a. a.name)
    (rules_of (content f))
    (λ a. map (rule_in f) a.rules)
    g
    (records f access_groups)
    f.asgs
    (names_kept f)
    (rules_kept f fits no_empty)

-- and the same inputs
pub answering_links :
    (f : File) (g : List ℕ)
    → Option.map (links_of (content f)) (answering (name (content f) access_groups) g (records f access_groups))
    ≡ Option.map (λ a. a.inputs) (answering (λ a. a.name) g f.asgs)
answering_links f g =
    answering_kept
    (name (content f) access_groups)
    (λ a. a.name)
    (links_of (content f))
    (λ a. a.inputs) g
    (records f access_groups)
    f.asgs
    (names_kept f)
    (links_kept f)
