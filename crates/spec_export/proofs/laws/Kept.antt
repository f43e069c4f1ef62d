-- What a file's table says is the file, its hosts in lower case and without places.
use Rattle.std.specs.Prelude.{◌≡◌, refl, cond, List, [], ◌∷◌, ◌++◌, map, ℕ, length, get_or}
use Rattle.std.proofs.Common.{sym, ◌∙◌}
use Rattle.std.proofs.lemmas.List.{length-map}
use Rattle.spec_lists.specs.Text.{lowered}
use Rattle.spec_lists.specs.Select.{joined, beside}
use Rattle.spec_lists.specs.Runs.{Run, runs, part}
use Rattle.spec_lists.proofs.laws.Every.{every}
use Rattle.spec_lists.proofs.laws.Joined.{length_runs, map_map, beside_left, beside_right}
use Rattle.spec_lists.proofs.laws.Alike.{both_read, Alike}
use Rattle.spec_lists.proofs.laws.Same.{unchanged}
use Rattle.spec_rule.specs.Rule.{Rule}
use Rattle.spec_file.specs.Limit.{user_groups, host_groups, access_groups, rules, references}
use Rattle.spec_file.specs.Contents.{Group, Link, RuleText, Asg, File}
use Rattle.spec_file.specs.Meaning.{rule_in}
use Rattle.spec_table.specs.Table.{run_at, rules_run, users_run, hosts_run}
use Rattle.spec_table.specs.Policy.{string, name, members_of, rule_of}
use Rattle.spec_table.specs.Written.{run_words, all_rules, Reference, number_of, references_to, reference_lists, names, spots, records, content}
use Rattle.spec_table.proofs.laws.Fits.{Fits}
use Rattle.spec_table.proofs.laws.Preserved.{strings_kept, spots_length, uags_kept, hags_kept, references_kept, rows_kept, rule_records_kept}
use Rattle.spec_table.proofs.laws.Preserved.{rule_lists_kept, links_of, names_kept, links_kept}
use Rattle.spec_text.proofs.laws.Unplaced.{unplaced_rule, unplaced_asg, lowered_group, kept}
use Rattle.spec_text.proofs.laws.KeptText.{no_empty}
use Rattle.spec_export.specs.Says.{group_in, names_in, rule_text_in, asg_in, file_in}

-- ---- groups

abbrev group_with : List ℕ → List (List ℕ) → Group
group_with n ms = record { name = n; members = ms }

module _ (f : File) where
  -- the groups whose names are the n-th ones
  group_names :
      (n : ℕ) (rs : List Run) → length (get_or (names f) n []) ≡ length rs
      → map (λ row. string (content f) (run_at 0 row)) (beside (λ name run. run_words name ++ run_words run) (spots f n) rs) ≡ get_or (names f) n []
  group_names n rs l =
      beside_left
      (λ name run. run_words name ++ run_words run)
      (λ row. string (content f) (run_at 0 row))
      (string (content f))
      (λ x y. refl)
      (spots f n)
      rs
      (spots_length f n ∙ l)
      ∙ strings_kept f n

  uags_said : map (group_in (content f) user_groups) (records f user_groups) ≡ f.uags
  uags_said =
      both_read
      group_with
      (name (content f) user_groups)
      (λ g. g.name)
      (members_of (content f))
      (λ g. g.members)
      (records f user_groups)
      f.uags
      (group_names 0 _ (simp (length_runs, length-map)))
      (uags_kept f)
      ∙ unchanged f.uags

  hags_said : map (group_in (content f) host_groups) (records f host_groups) ≡ map lowered_group f.hags
  hags_said =
      both_read
      group_with
      (name (content f) host_groups)
      (λ g. g.name)
      (members_of (content f))
      (λ g. map lowered g.members)
      (records f host_groups)
      f.hags
      (group_names 1 _ (simp (length_runs, length-map)))
      (hags_kept f)

-- ---- the names of references

abbrev Named : File → Run → List Reference → Type 0
Named f r l = names_in (content f) r ≡ map (λ x. x.name) l

module _ (f : File) where
  reference_names : map (name (content f) references) (records f references) ≡ map (λ x. x.name) (joined (reference_lists f))
  reference_names =
      beside_right
      (λ r name. r.number ∷ run_words name)
      (name (content f) references)
      (string (content f))
      (λ x y. refl)
      (joined (reference_lists f))
      (spots f 5)
      (sym (spots_length f 5 ∙ length-map (joined (reference_lists f)) (λ r. r.name)))
      ∙ strings_kept f 5

  references_said : Alike (Named f) (runs 0 (reference_lists f)) (reference_lists f)
  references_said = references_kept f (name (content f) references) (λ x. x.name) reference_names

-- references have the names that they were made of
names_again : (gs : List Group) (ss : List (List ℕ)) → map (λ x. x.name) (references_to gs ss) ≡ ss
names_again gs ss = map_map (λ x. x.name) (λ s. record { number = number_of 0 s gs; name = s }) ss ∙ unchanged ss

-- ---- rules

-- the names of the groups that a rule names
record NamedGroups : Type 0 where
  uags : List (List ℕ)
  hags : List (List ℕ)

abbrev groups_in : File → List ℕ → NamedGroups
groups_in f row = record { uags = names_in (content f) (users_run row); hags = names_in (content f) (hosts_run row) }

abbrev groups_of : RuleText → NamedGroups
groups_of r = record { uags = r.uags; hags = r.hags }

-- a rule, but with these names for the members that the groups have
abbrev rule_with : Rule → NamedGroups → RuleText
rule_with r n =
    record {
      level = r.level;
      permission = r.permission;
      trap = r.trap;
      uags = n.uags;
      hags = n.hags;
      calculation = r.calculation;
      unknown = cond r.switched_off (0 ∷ []) [];
    }

module _ (f : File) where
  groups_said : map (groups_in f) (records f rules) ≡ map groups_of (all_rules f)
  groups_said =
      rows_kept {P = λ r. r ≡ r} f (groups_in f) groups_of
      -- a row's runs are u and h
      (λ r u h q p us hs s. cc (us ∙ names_again f.uags r.uags, hs ∙ names_again f.hags r.hags))
      (every (λ r. refl) (all_rules f))
      (references_said f)

  module _ (fits : Fits f) where
    rules_said : map (rule_text_in (content f)) (records f rules) ≡ map unplaced_rule (all_rules f)
    rules_said =
        both_read
        rule_with
        (rule_of (content f))
        (rule_in f)
        (groups_in f)
        groups_of
        (records f rules)
        (all_rules f)
        (rule_records_kept f fits no_empty)
        groups_said

    -- the rules of each access group
    rule_lists_said :
        map (λ row. map (rule_text_in (content f)) (part (rules_run row) (records f rules))) (records f access_groups)
        ≡ map (λ a. map unplaced_rule a.rules) f.asgs
    rule_lists_said = rule_lists_kept f (rule_text_in (content f)) unplaced_rule rules_said

-- ---- access groups

abbrev asg_with : List ℕ → List Link → List RuleText → Asg
asg_with n is rs = record { name = n; inputs = is; rules = rs }

asgs_said : (f : File) → Fits f → map (asg_in (content f)) (records f access_groups) ≡ map unplaced_asg f.asgs
asgs_said f fits =
    both_read
    (λ (k : List RuleText → Asg) (rs : List RuleText). k rs)
    (λ row. asg_with (name (content f) access_groups row) (links_of (content f) row))
    (λ a. asg_with a.name a.inputs)
    (λ row. map (rule_text_in (content f)) (part (rules_run row) (records f rules)))
    (λ a. map unplaced_rule a.rules)
    (records f access_groups)
    f.asgs
    (both_read
    asg_with
    (name (content f) access_groups)
    (λ a. a.name)
    (links_of (content f))
    (λ a. a.inputs)
    (records f access_groups)
    f.asgs
    (names_kept f)
    (links_kept f))
    (rule_lists_said f fits)

-- what a file's table says
pub says_kept : (f : File) → Fits f → file_in (content f) ≡ kept f
says_kept f fits = λ i. record { uags = uags_said f i; hags = hags_said f i; asgs = asgs_said f fits i }
