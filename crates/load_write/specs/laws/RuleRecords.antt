-- What the passes over inputs, rules and references write, all access groups in one.
use Rattle.std.specs.Prelude.{Bool, true, false, cond, ◌≡◌, ℕ, ◌+◌, ◌*◌}
use mathlib.Core.List.{List, [], ◌∷◌, ◌++◌, map, append_assoc}
use Rattle.std.proofs.Math.Option.{get_or}
use Rattle.std.proofs.Math.Path.{refl, ap, sym}
use Rattle.std.proofs.Common.{◌∙◌, ap₂, add_assoc}
use native.Mathlib.Omega.{arith}
use Rattle.std.proofs.Math.ListN.{length, length-append}
use Rattle.std.proofs.lemmas.List.{length-map}
use Rattle.spec_lists.proofs.laws.Joined.{joined_append, map_append}
use Rattle.spec_lists.specs.Runs.{runs, Run}
use Rattle.spec_lists.specs.Select.{joined, beside, beside₃, prepend_if, select}
use Rattle.spec_lists.specs.Text.{same}
use Rattle.spec_lists.specs.Words.{spelled_out}
use Rattle.spec_grammar.specs.declared.Role.{Role}
use Rattle.spec_grammar.specs.declared.Role.TheVariants.{Input, Pvname, RuleWord, Calculation, UagNamed, HagNamed}
use Rattle.spec_grammar.specs.Sentence.{Tagged}
use Rattle.spec_file.specs.Contents.{Clause, has_role, Link, RuleText, rule_text, Group, text, texts}
use Rattle.spec_table.specs.Written.{run_words, flags, calculation_words, references_to, Reference, two_runs, number_of}
use Rattle.byte_write.specs.laws.Puts.{spelled_append}
use Rattle.load_flags.specs.Tokens.{cut, first_text, numbered}
use Rattle.load_records.specs.declared.Cursor.{Cursor}
use Rattle.load_records.specs.Work.{Firsts, Inputs, Rules, References, Texts}
use Rattle.load_records.specs.Cursor.{cursor}
use Rattle.load_records.specs.Record.{emit, move}
use Rattle.load_records.specs.laws.Cursors.{same_cursor}
use Rattle.load_records.specs.laws.Rules.{rule_length}
use Rattle.load_passes.specs.Pass.{each_emits, each_moves, emits, moves, refer_emits, refer_moves, rule_emits, rule_moves}
use Rattle.load_write.specs.laws.Flat.{cuts, link_of}

-- a token that says what is looked for, or not
either : {A : Type 0} (F : A → List Clause → Type 0) (b : Bool) {s t : A} {cs ds : List Clause} → F s cs → F t ds → F (cond b s t) (cond b cs ds)
either F true h k = h
either F false h k = k

-- ---- the first texts that belong to tokens: names of inputs, calculations

pub firsts_are : (q m : Role) (xs : List Tagged) (p : Cursor) → emits q m [] Firsts xs p ≡ joined (map (λ c. first_text m c.body) (cuts q xs))
unfolding each_emits
firsts_are q m [] p = refl
firsts_are q m (x ∷ xs) p =
    either
    (λ l cs. l ≡ joined (map (λ c. first_text m c.body) cs))
    (has_role q x)
    (ap (λ (l : List ℕ). first_text m (cut q xs) ++ l) (firsts_are q m xs (move q m [] Firsts x xs p)))
    (firsts_are q m xs p)

-- ---- inputs

abbrev pub link_names : List Link → List (List ℕ)
link_names ls = map (λ i. i.name) ls

-- the records of inputs whose names stand from the offset o on
abbrev pub link_block : List Link → ℕ → List ℕ
link_block ls o = spelled_out (joined (beside (λ i name. i.letter ∷ run_words name) ls (runs o (link_names ls))))

-- the cursor behind them
abbrev pub link_cursor : List Link → Cursor → Cursor
link_cursor ls p = cursor (p.at + 6 * length ls) (p.string + length (joined (link_names ls))) p.first p.second

pub inputs_are : (xs : List Tagged) (p : Cursor) → emits Input Pvname [] Inputs xs p ≡ link_block (map link_of (cuts Input xs)) p.string
unfolding each_emits
inputs_are [] p = refl
inputs_are (x ∷ xs) p =
    either
    (λ l cs. l ≡ link_block (map link_of cs) p.string)
    (has_role Input x)
    (ap (λ (l : List ℕ). emit Input Pvname [] Inputs x xs p ++ l) (inputs_are xs (move Input Pvname [] Inputs x xs p)))
    (inputs_are xs p)

pub inputs_move : (xs : List Tagged) (p : Cursor) → moves Input Pvname [] Inputs xs p ≡ link_cursor (map link_of (cuts Input xs)) p
unfolding each_moves
inputs_move [] p = same_cursor (omega arith) (omega arith) refl refl
inputs_move (x ∷ xs) p =
    either
    (λ r cs. r ≡ link_cursor (map link_of cs) p)
    (has_role Input x)
    (inputs_move xs (move Input Pvname [] Inputs x xs p)
    ∙ same_cursor
    (omega arith)
    (omega (arith, length-append (first_text Pvname (cut Input xs)) (joined (link_names (map link_of (cuts Input xs))))))
    (omega arith)
    (omega arith))
    (inputs_move xs p)

-- ---- rules

abbrev pub rule_texts : List Clause → List RuleText
rule_texts cs = map (λ c. rule_text c.body) cs

abbrev pub calculations : List RuleText → List (List ℕ)
calculations rs = map (λ r. get_or r.calculation []) rs

-- the words of a rule
abbrev pub rule_words : RuleText → List ℕ → Run → List ℕ
rule_words r refs calc = flags r ∷ (refs ++ calculation_words r.calculation calc)

refs_length : (gs : List Group) (ts : List (List ℕ)) → length (references_to gs ts) ≡ length ts
refs_length gs ts = length-map ts _

-- us, hs: the groups that the rules refer to
module _ (us hs : List Group) where
  -- the references of some rules: of each those to user groups, then those to host groups
  abbrev pub rule_refs : List RuleText → List (List Reference)
  rule_refs rs = joined (map (λ r. references_to us r.uags ∷ references_to hs r.hags ∷ []) rs)

  -- the records of rules whose references are numbered from f on and whose calculations stand from the offset o on
  abbrev pub rule_block : List RuleText → ℕ → ℕ → List ℕ
  rule_block rs f o = spelled_out (joined (beside₃ rule_words rs (two_runs (runs f (rule_refs rs))) (runs o (calculations rs))))

  -- the cursor behind them
  abbrev pub rule_cursor : List RuleText → Cursor → Cursor
  rule_cursor rs p = cursor (p.at + 14 * length rs) (p.string + length (joined (calculations rs))) (p.first + length (joined (rule_refs rs))) p.second

  abbrev one_rule : RuleText → ℕ → ℕ → List ℕ
  one_rule r f o =
      flags r
      ∷ f
      ∷ length r.uags
      ∷ (f + length r.uags)
      ∷ length r.hags
      ∷ calculation_words r.calculation (record { first = o; count = length (get_or r.calculation []) })

  rule_on :
      (r : RuleText) (rs : List RuleText) (f o : ℕ)
      → rule_block (r ∷ rs) f o
      ≡ spelled_out (one_rule r f o) ++ rule_block rs (f + (length r.uags + length r.hags)) (o + length (get_or r.calculation []))
  rule_on r rs f o =
      rw (refs_length us r.uags, refs_length hs r.hags, add_assoc f (length r.uags) (length r.hags))
      (spelled_append (one_rule r f o) _)

  pub rules_are : (xs : List Tagged) (p : Cursor) → emits RuleWord Calculation [] Rules xs p ≡ rule_block (rule_texts (cuts RuleWord xs)) p.first p.string
  unfolding each_emits
  rules_are [] p = refl
  rules_are (x ∷ xs) p =
      either
      (λ l cs. l ≡ rule_block (rule_texts cs) p.first p.string)
      (has_role RuleWord x)
      (ap (λ (l : List ℕ). emit RuleWord Calculation [] Rules x xs p ++ l) (rules_are xs (move RuleWord Calculation [] Rules x xs p))
      ∙ sym (rule_on (rule_text (cut RuleWord xs)) (rule_texts (cuts RuleWord xs)) p.first p.string))
      (rules_are xs p)

  pub rules_move : (xs : List Tagged) (p : Cursor) → moves RuleWord Calculation [] Rules xs p ≡ rule_cursor (rule_texts (cuts RuleWord xs)) p
  unfolding each_moves
  rules_move [] p = same_cursor (omega arith) (omega arith) (omega arith) refl
  rules_move (x ∷ xs) p =
      let r = rule_text (cut RuleWord xs) in
      let rs = rule_texts (cuts RuleWord xs) in
      let ru = references_to us r.uags in
      let rh = references_to hs r.hags in
      either
      (λ t cs. t ≡ rule_cursor (rule_texts cs) p)
      (has_role RuleWord x)
      (rules_move xs (move RuleWord Calculation [] Rules x xs p)
      ∙ same_cursor
      (omega (
        arith,
        rule_length (flags r) p.first (length r.uags) (p.first + length r.uags) (length r.hags) r.calculation
            (record { first = p.string; count = length (get_or r.calculation []) }),
      ))
      (omega (arith, length-append (get_or r.calculation []) (joined (calculations rs))))
      (omega (
        arith,
        length-append ru (rh ++ joined (rule_refs rs)),
        length-append rh (joined (rule_refs rs)),
        refs_length us r.uags,
        refs_length hs r.hags,
      ))
      (omega arith))
      (rules_move xs p)

-- ---- references

-- the same for the texts of the tokens that are looked for
either_text :
    {A : Type 0} (F : A → List (List ℕ) → Type 0) (b : Bool) (x : Tagged) (ys : List Tagged) {s t : A}
    → F s (text x ∷ map text ys) → F t (map text ys) → F (cond b s t) (map text (prepend_if b x ys))
either_text F true x ys h k = h
either_text F false x ys h k = k

abbrev pub group_names : List Group → List (List ℕ)
group_names gs = map (λ g. g.name) gs

-- groups are numbered by their names alone
pub numbered_by : (k : ℕ) (s : List ℕ) (gs : List Group) → numbered k s (group_names gs) ≡ number_of k s gs
numbered_by k s [] = refl
numbered_by k s (g ∷ gs) = ap (λ (n : ℕ). cond (same g.name s) k n) (numbered_by (k + 1) s gs)

abbrev pub ref_names : List Reference → List (List ℕ)
ref_names rs = map (λ r. r.name) rs

-- the records of references whose names stand from the offset o on
abbrev pub ref_block : List Reference → ℕ → List ℕ
ref_block rs o = spelled_out (joined (beside (λ r name. r.number ∷ run_words name) rs (runs o (ref_names rs))))

-- the cursor behind them
abbrev pub ref_cursor : List Reference → Cursor → Cursor
ref_cursor rs p = cursor (p.at + 6 * length rs) (p.string + length (joined (ref_names rs))) p.first p.second

ref_append : (rs ss : List Reference) (o : ℕ) → ref_block (rs ++ ss) o ≡ ref_block rs o ++ ref_block ss (o + length (joined (ref_names rs)))
ref_append [] ss o = ap (λ (k : ℕ). ref_block ss k) (omega arith)
ref_append (r ∷ rs) ss o =
    let a = length-append r.name (joined (ref_names rs)) in
    let e : (o + length r.name) + length (joined (ref_names rs)) ≡ o + length (r.name ++ joined (ref_names rs)) = omega (arith, a) in
    ap (λ (l : List ℕ). spelled_out (r.number ∷ o ∷ length r.name ∷ []) ++ l)
    (ref_append rs ss (o + length r.name) ∙ ap (λ (k : ℕ). ref_block rs (o + length r.name) ++ ref_block ss k) e)

names_append : (rs ss : List Reference) → joined (ref_names (rs ++ ss)) ≡ joined (ref_names rs) ++ joined (ref_names ss)
names_append rs ss = ap joined (map_append (λ r. r.name) rs ss) ∙ joined_append (ref_names rs) (ref_names ss)

cursor_append : (rs ss : List Reference) (p : Cursor) → ref_cursor ss (ref_cursor rs p) ≡ ref_cursor (rs ++ ss) p
cursor_append rs ss p =
    let e = length-append (joined (ref_names rs)) (joined (ref_names ss)) in
    same_cursor
    (omega (arith, length-append rs ss))
    (omega (arith, e, ap length (names_append rs ss)))
    refl
    refl

-- q: the role of the references; gs: the groups that they refer to
module _ (q m : Role) (gs : List Group) where
  refs_are : (xs : List Tagged) (p : Cursor) → emits q m (group_names gs) References xs p ≡ ref_block (references_to gs (texts q xs)) p.string
  unfolding each_emits
  refs_are [] p = refl
  refs_are (x ∷ xs) p =
      either_text
      (λ l ts. l ≡ ref_block (references_to gs ts) p.string)
      (has_role q x)
      x
      (select (has_role q) xs)
      (ap₂
      (λ (n : ℕ) (l : List ℕ). spelled_out (n ∷ p.string ∷ length (text x) ∷ []) ++ l)
      (numbered_by 0 (text x) gs)
      (refs_are xs (move q m (group_names gs) References x xs p)))
      (refs_are xs p)

  refs_move : (xs : List Tagged) (p : Cursor) → moves q m (group_names gs) References xs p ≡ ref_cursor (references_to gs (texts q xs)) p
  unfolding each_moves
  refs_move [] p = same_cursor (omega arith) (omega arith) refl refl
  refs_move (x ∷ xs) p =
      either_text
      (λ t ts. t ≡ ref_cursor (references_to gs ts) p)
      (has_role q x)
      x
      (select (has_role q) xs)
      (refs_move xs (move q m (group_names gs) References x xs p)
      ∙ same_cursor
      (omega arith)
      (omega (arith, length-append (text x) (joined (ref_names (references_to gs (texts q xs))))))
      (omega arith)
      (omega arith))
      (refs_move xs p)

  -- the strings, whatever the references are numbered by
  ref_texts : (ns : List (List ℕ)) (xs : List Tagged) (p : Cursor) → emits q m ns Texts xs p ≡ joined (ref_names (references_to gs (texts q xs)))
  unfolding each_emits
  ref_texts ns [] p = refl
  ref_texts ns (x ∷ xs) p =
      either_text
      (λ l ts. l ≡ joined (ref_names (references_to gs ts)))
      (has_role q x)
      x
      (select (has_role q) xs)
      (ap (λ (l : List ℕ). text x ++ l) (ref_texts ns xs (move q m ns Texts x xs p)))
      (ref_texts ns xs p)

-- ---- the references of all rules
module _ (us hs : List Group) where
  abbrev pub all_refs : List Clause → List Reference
  all_refs cs = joined (rule_refs us hs (rule_texts cs))

  abbrev u_refs : List Tagged → List Reference
  u_refs ys = references_to us (texts UagNamed ys)

  abbrev h_refs : List Tagged → List Reference
  h_refs ys = references_to hs (texts HagNamed ys)

  rule_refers :
      (ys : List Tagged) (p : Cursor) → rule_emits References (group_names us) (group_names hs) ys p ≡ ref_block (u_refs ys ++ h_refs ys) p.string
  rule_refers ys p =
      rw (refs_move UagNamed UagNamed us ys p, refs_are UagNamed UagNamed us ys p, refs_are HagNamed HagNamed hs ys (ref_cursor (u_refs ys) p))
      (sym (ref_append (u_refs ys) (h_refs ys) p.string))

  rule_refers_to :
      (ys : List Tagged) (p : Cursor) → rule_moves References (group_names us) (group_names hs) ys p ≡ ref_cursor (u_refs ys ++ h_refs ys) p
  rule_refers_to ys p =
      rw (refs_move UagNamed UagNamed us ys p, refs_move HagNamed HagNamed hs ys (ref_cursor (u_refs ys) p))
      (cursor_append (u_refs ys) (h_refs ys) p)

  -- a rule before others
  refs_on : (ys : List Tagged) (cs : List Clause) → (u_refs ys ++ h_refs ys) ++ all_refs cs ≡ u_refs ys ++ (h_refs ys ++ all_refs cs)
  refs_on ys cs = append_assoc (u_refs ys) (h_refs ys) (all_refs cs)

  pub references_are :
      (xs : List Tagged) (p : Cursor)
      → refer_emits References (group_names us) (group_names hs) xs p ≡ ref_block (all_refs (cuts RuleWord xs)) p.string
  unfolding each_emits
  references_are [] p = refl
  references_are (x ∷ xs) p =
      let ys = cut RuleWord xs in
      let cs = cuts RuleWord xs in
      either
      (λ l ds. l ≡ ref_block (all_refs ds) p.string)
      (has_role RuleWord x)
      (ap₂
      (λ (l : List ℕ) (t : Cursor). l ++ refer_emits References (group_names us) (group_names hs) xs t)
      (rule_refers ys p)
      (rule_refers_to ys p)
      ∙ ap (λ (l : List ℕ). ref_block (u_refs ys ++ h_refs ys) p.string ++ l) (references_are xs (ref_cursor (u_refs ys ++ h_refs ys) p))
      ∙ sym (ref_append (u_refs ys ++ h_refs ys) (all_refs cs) p.string)
      ∙ ap (λ (rs : List Reference). ref_block rs p.string) (refs_on ys cs))
      (references_are xs p)

  pub references_move :
      (xs : List Tagged) (p : Cursor) → refer_moves References (group_names us) (group_names hs) xs p ≡ ref_cursor (all_refs (cuts RuleWord xs)) p
  unfolding each_moves
  references_move [] p = same_cursor (omega arith) (omega arith) refl refl
  references_move (x ∷ xs) p =
      let ys = cut RuleWord xs in
      let cs = cuts RuleWord xs in
      either
      (λ t ds. t ≡ ref_cursor (all_refs ds) p)
      (has_role RuleWord x)
      (ap (λ (t : Cursor). refer_moves References (group_names us) (group_names hs) xs t) (rule_refers_to ys p)
      ∙ references_move xs (ref_cursor (u_refs ys ++ h_refs ys) p)
      ∙ cursor_append (u_refs ys ++ h_refs ys) (all_refs cs) p
      ∙ ap (λ (rs : List Reference). ref_cursor rs p) (refs_on ys cs))
      (references_move xs p)

  -- the names of all references, by whatever names they are numbered
  pub reference_texts :
      (ms ns : List (List ℕ)) (xs : List Tagged) (p : Cursor) → refer_emits Texts ms ns xs p ≡ joined (ref_names (all_refs (cuts RuleWord xs)))
  unfolding each_emits
  reference_texts ms ns [] p = refl
  reference_texts ms ns (x ∷ xs) p =
      let ys = cut RuleWord xs in
      let cs = cuts RuleWord xs in
      either
      (λ l ds. l ≡ joined (ref_names (all_refs ds)))
      (has_role RuleWord x)
      (ap₂
      (λ (l r : List ℕ). l ++ r)
      (ap₂
      (λ (l r : List ℕ). l ++ r)
      (ref_texts UagNamed UagNamed us ms ys p)
      (ref_texts HagNamed HagNamed hs ns ys (moves UagNamed UagNamed ms Texts ys p))
      ∙ sym (names_append (u_refs ys) (h_refs ys)))
      (reference_texts ms ns xs (rule_moves Texts ms ns ys p))
      ∙ sym (names_append (u_refs ys ++ h_refs ys) (all_refs cs))
      ∙ ap (λ (rs : List Reference). joined (ref_names rs)) (refs_on ys cs))
      (reference_texts ms ns xs p)
