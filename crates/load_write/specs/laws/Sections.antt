-- The sections of a file's table, as the passes write them: each at a cursor whose offset and numbers are those of the table.
use Rattle.std.specs.Prelude.{false, List, [], ◌∷◌, map, ◌++◌, ◌≡◌, refl, ℕ, ◌+◌, length}
use Rattle.std.proofs.Common.{append_assoc, append-nil, ap, ◌∙◌, sym, ap₂}
use Rattle.std.proofs.Math.Option.{get_or}
use Rattle.std.proofs.lemmas.List.{length-map}
use Rattle.spec_lists.proofs.laws.Joined.{map_map, map_joined, joined_append, map_append, runs_map}
use Rattle.spec_lists.proofs.laws.Runs.{runs_append}
use Rattle.spec_lists.specs.Runs.{Run, runs}
use Rattle.spec_lists.specs.Select.{joined}
use Rattle.spec_lists.specs.Text.{lowered, lower_byte}
use Rattle.spec_lists.specs.Words.{spelled_out}
use Rattle.spec_grammar.specs.declared.Role.{Role}
use Rattle.spec_grammar.specs.declared.Role.TheVariants.{AsgName, UagName, User, HagName, Host, Input, RuleWord, Pvname, Calculation}
use Rattle.spec_grammar.specs.Sentence.{Tagged}
use Rattle.spec_grammar.specs.Codes.{same_role}
use Rattle.spec_file.specs.Contents.{text, texts, groups, clauses, asg, file_of, Link, RuleText, rule_text}
use Rattle.spec_file.specs.Limit.{user_groups, host_groups, members, access_groups, inputs, rules, references}
use Rattle.spec_table.specs.Written.{member_lists, Reference, records, run_words, names}
use Rattle.byte_write.specs.laws.Puts.{spelled_append}
use Rattle.load_records.specs.declared.Cursor.{Cursor}
use Rattle.load_records.specs.Work.{Groups, Names, Access, Inputs, Rules, References}
use Rattle.load_passes.specs.Pass.{emits, refer_emits}
use Rattle.load_passes.specs.laws.Each.{by_says}
use Rattle.load_sections.specs.Sections.{from}
use Rattle.load_sections.specs.Strings.{zero_cursor}
use Rattle.load_write.specs.Passes.{strings}
use Rattle.load_write.specs.laws.Flat.{cuts, flat_links, flat_rules, link_of, texts_joined}
use Rattle.load_write.specs.laws.GroupRecords.{access_bytes, groups_bytes, lowered_bytes, names_bytes, texts_bytes}
use Rattle.load_write.specs.laws.RuleRecords.{firsts_are, inputs_are, reference_texts, references_are, rule_refs, rules_are}

-- ---- names and members

pub group_texts : (q m : Role) (xs : List Tagged) → map (λ g. g.name) (groups q m xs) ≡ texts q xs
group_texts q m [] = refl
group_texts q m (x ∷ xs) = by_says q x (λ h. rw h (ap (λ (l : List (List ℕ)). text x ∷ l) (group_texts q m xs))) (λ h. rw h (group_texts q m xs))

pub asg_texts : (xs : List Tagged) → map (λ a. a.name) (map asg (clauses AsgName xs)) ≡ texts AsgName xs
asg_texts [] = refl
asg_texts (x ∷ xs) = by_says AsgName x (λ h. rw h (ap (λ (l : List (List ℕ)). text x ∷ l) (asg_texts xs))) (λ h. rw h (asg_texts xs))

pub group_members : (q m : Role) → same_role m q ≡ false → (xs : List Tagged) → joined (map (λ g. g.members) (groups q m xs)) ≡ texts m (from q xs)
group_members q m d xs = ap joined (map_map (λ g. g.members) _ (clauses q xs)) ∙ texts_joined q m d xs

pub group_lowered :
    (q m : Role) → same_role m q ≡ false → (xs : List Tagged) → joined (map (λ g. map lowered g.members) (groups q m xs)) ≡ map lowered (texts m (from q xs))
group_lowered q m d xs =
    ap joined (sym (map_map (map lowered) (λ g. g.members) (groups q m xs)))
    ∙ sym (map_joined lowered (map (λ g. g.members) (groups q m xs)))
    ∙ ap (map lowered) (group_members q m d xs)

-- the members of a file
pub file_members : (xs : List Tagged) → joined (member_lists (file_of xs)) ≡ texts User (from UagName xs) ++ map lowered (texts Host (from HagName xs))
file_members xs =
    joined_append (map (λ g. g.members) (groups UagName User xs)) (map (λ g. map lowered g.members) (groups HagName Host xs))
    ∙ ap₂ (λ (a b : List (List ℕ)). a ++ b) (group_members UagName User refl xs) (group_lowered HagName Host refl xs)

-- texts in lower case are as long
pub lowered_length : (ts : List (List ℕ)) → length (joined (map lowered ts)) ≡ length (joined ts)
lowered_length ts = ap length (sym (map_joined lower_byte ts)) ∙ length-map (joined ts) lower_byte

-- ---- where the strings begin

-- the inputs, rules and references of a file
abbrev pub links_of : List Tagged → List Link
links_of xs = map link_of (cuts Input (from AsgName xs))

abbrev pub rules_of : List Tagged → List RuleText
rules_of xs = map (λ p. rule_text p.body) (cuts RuleWord (from AsgName xs))

abbrev pub refs_of : List Tagged → List Reference
refs_of xs = joined (rule_refs (groups UagName User xs) (groups HagName Host xs) (rules_of xs))

-- its members, as they are stored
abbrev pub members_of : List Tagged → List (List ℕ)
members_of xs = texts User (from UagName xs) ++ map lowered (texts Host (from HagName xs))

-- where the names begin: those of host groups, members, access groups, inputs and references, and the calculations
abbrev pub offset_1 : List Tagged → ℕ
offset_1 xs = 0 + length (joined (texts UagName xs))

abbrev pub offset_2 : List Tagged → ℕ
offset_2 xs = offset_1 xs + length (joined (texts HagName xs))

abbrev pub offset_3 : List Tagged → ℕ
offset_3 xs = offset_2 xs + length (joined (members_of xs))

abbrev pub offset_4 : List Tagged → ℕ
offset_4 xs = offset_3 xs + length (joined (texts AsgName xs))

abbrev pub offset_5 : List Tagged → ℕ
offset_5 xs = offset_4 xs + length (joined (map (λ i. i.name) (links_of xs)))

abbrev pub offset_6 : List Tagged → ℕ
offset_6 xs = offset_5 xs + length (joined (map (λ r. r.name) (refs_of xs)))

-- ---- the sections

pub user_section :
    (xs : List Tagged) (p : Cursor) → p.string ≡ 0 → p.first ≡ 0
    → emits UagName User [] Groups xs p ≡ spelled_out (joined (records (file_of xs) user_groups))
user_section xs p o f = groups_bytes UagName User xs p ∙ rw (o, f, group_texts UagName User xs)

pub host_section :
    (xs : List Tagged) (p : Cursor) → p.string ≡ offset_1 xs → p.first ≡ length (joined (map (λ g. g.members) (groups UagName User xs)))
    → emits HagName Host [] Groups xs p ≡ spelled_out (joined (records (file_of xs) host_groups))
host_section xs p o f = groups_bytes HagName Host xs p ∙ rw (o, f, group_texts UagName User xs, group_texts HagName Host xs)

-- what two lists of runs spell out
spelled_runs :
    (rs ts : List Run)
    → spelled_out (joined (map run_words (rs ++ ts))) ≡ spelled_out (joined (map run_words rs)) ++ spelled_out (joined (map run_words ts))
spelled_runs rs ts =
    rw (map_append run_words rs ts, joined_append (map run_words rs) (map run_words ts))
    (spelled_append (joined (map run_words rs)) (joined (map run_words ts)))

-- users, then hosts
pub member_section :
    (xs : List Tagged) (p t : Cursor) → p.string ≡ offset_2 xs → t.string ≡ p.string + length (joined (texts User (from UagName xs)))
    → emits User User [] Names (from UagName xs) p ++ emits Host Host [] Names (from HagName xs) t ≡ spelled_out (joined (records (file_of xs) members))
member_section xs p t o e =
    ap₂ (λ (a b : List ℕ). a ++ b) (names_bytes User (from UagName xs) p) (names_bytes Host (from HagName xs) t)
    ∙ ap (λ (rs : List Run). spelled_out (joined (map run_words us)) ++ spelled_out (joined (map run_words rs)))
    (sym (runs_map lower_byte t.string (texts Host (from HagName xs))))
    ∙ sym (spelled_runs us hs)
    ∙ ap (λ (rs : List Run). spelled_out (joined (map run_words rs)))
    (runs_append p.string t.string (texts User (from UagName xs)) (map lowered (texts Host (from HagName xs))) (sym e))
    ∙ rw (o, group_texts UagName User xs, group_texts HagName Host xs, file_members xs)
  where
    us : List Run
    us = runs p.string (texts User (from UagName xs))

    hs : List Run
    hs = runs t.string (map lowered (texts Host (from HagName xs)))

pub access_section :
    (xs : List Tagged) (p : Cursor) → p.string ≡ offset_3 xs → p.first ≡ 0 → p.second ≡ 0
    → emits AsgName AsgName [] Access xs p ≡ spelled_out (joined (records (file_of xs) access_groups))
access_section xs p o f s = access_bytes xs p ∙ rw (o, f, s, group_texts UagName User xs, group_texts HagName Host xs, file_members xs, asg_texts xs)

pub input_section :
    (xs : List Tagged) (p : Cursor) → p.string ≡ offset_4 xs
    → emits Input Pvname [] Inputs (from AsgName xs) p ≡ spelled_out (joined (records (file_of xs) inputs))
input_section xs p o =
    inputs_are (from AsgName xs) p ∙ rw (o, group_texts UagName User xs, group_texts HagName Host xs, file_members xs, asg_texts xs, flat_links xs)

pub rule_section :
    (xs : List Tagged) (p : Cursor) → p.string ≡ offset_6 xs → p.first ≡ 0
    → emits RuleWord Calculation [] Rules (from AsgName xs) p ≡ spelled_out (joined (records (file_of xs) rules))
rule_section xs p o f =
    rules_are (groups UagName User xs) (groups HagName Host xs) (from AsgName xs) p
    ∙ rw (o, f, group_texts UagName User xs, group_texts HagName Host xs, file_members xs, asg_texts xs, flat_links xs, flat_rules xs)

pub reference_section :
    (xs : List Tagged) (p : Cursor) → p.string ≡ offset_5 xs
    → refer_emits References (texts UagName xs) (texts HagName xs) (from AsgName xs) p ≡ spelled_out (joined (records (file_of xs) references))
reference_section xs p o =
    ap₂
    (λ (us hs : List (List ℕ)). refer_emits References us hs (from AsgName xs) p)
    (sym (group_texts UagName User xs))
    (sym (group_texts HagName Host xs))
    ∙ references_are (groups UagName User xs) (groups HagName Host xs) (from AsgName xs) p
    ∙ rw (o, group_texts UagName User xs, group_texts HagName Host xs, file_members xs, asg_texts xs, flat_links xs, flat_rules xs)

-- ---- the strings

joined_joined : {A : Type 0} (xss : List (List (List A))) → joined (joined xss) ≡ joined (map joined xss)
joined_joined [] = refl
joined_joined {A} (xs ∷ xss) = joined_append xs (joined xss) ∙ ap (λ (l : List A). joined xs ++ l) (joined_joined xss)

pub file_strings : (us hs : List (List ℕ)) (xs : List Tagged) → strings us hs xs ≡ joined (joined (names (file_of xs)))
file_strings us hs xs =
    rw (
      texts_bytes UagName xs zero_cursor,
      texts_bytes HagName xs zero_cursor,
      texts_bytes User (from UagName xs) zero_cursor,
      lowered_bytes Host (from HagName xs) zero_cursor,
      texts_bytes AsgName xs zero_cursor,
      firsts_are Input Pvname (from AsgName xs) zero_cursor,
      reference_texts (groups UagName User xs) (groups HagName Host xs) [] [] (from AsgName xs) zero_cursor,
      firsts_are RuleWord Calculation (from AsgName xs) zero_cursor,
      joined_joined (names (file_of xs)),
      group_texts UagName User xs,
      group_texts HagName Host xs,
      file_members xs,
      asg_texts xs,
      flat_links xs,
      flat_rules xs,
      joined_append (texts User (from UagName xs)) (map lowered (texts Host (from HagName xs))),
      map_map (λ (i : Link). i.name) link_of (cuts Input (from AsgName xs)),
      map_map (λ (r : RuleText). get_or r.calculation []) (λ p. rule_text p.body) (cuts RuleWord (from AsgName xs)),
    )
    (simp (append_assoc, append-nil))
