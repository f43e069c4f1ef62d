-- What a table keeps of a file has the file's table.
use Rattle.std.specs.Prelude.{◌≡◌, refl, Bool, true, false, cond, List, [], ◌∷◌, ◌++◌, map, ℕ, ◌+◌, ◌*◌, length, get_or}
use Rattle.std.proofs.Common.{sym, ap, ap₂, ◌∙◌, arith}
use Rattle.std.proofs.Math.Path.{fun_ext}
use Rattle.std.proofs.Math.Option
use Rattle.spec_lists.specs.Text.{same, capital, lower_byte, lowered}
use Rattle.spec_lists.specs.Select.{joined, beside}
use Rattle.spec_lists.specs.Runs.{Run, runs, spread}
use Rattle.spec_lists.proofs.laws.Alike.{beside_alike, map_same}
use Rattle.spec_lists.proofs.laws.Joined.{map_map, map_joined, runs_map}
use Rattle.spec_lists.proofs.laws.Range.{above, bounded}
use Rattle.spec_rule.specs.Rule.{rank}
use Rattle.spec_file.specs.Limit.{Section, user_groups, host_groups, members, access_groups, inputs, rules, references}
use Rattle.spec_file.specs.Contents.{Group, RuleText, File}
use Rattle.spec_table.specs.Layout.{layout}
use Rattle.spec_table.specs.Written.{member_lists, all_links, all_rules, Reference, number_of, references_to, reference_lists, names, spots, flag}
use Rattle.spec_table.specs.Written.{flags, calculation_words, two_runs, records, content, table_of}
use Rattle.spec_text.proofs.laws.Unplaced.{unplaced_rule, unplaced_asg, lowered_group, kept}
use Rattle.spec_text.proofs.laws.KeptText.{still_off, read_alike}

-- ---- lower case, once and again

lower_again : (b : ℕ) → lower_byte (lower_byte b) ≡ lower_byte b
lower_again b = go (capital b) refl
  where
    go : (t : Bool) → capital b ≡ t → lower_byte (cond t (b + 32) b) ≡ cond t (b + 32) b
    go true e = let z = bounded 65 90 b e in rw (above 65 90 (b + 32) (omega arith))
    go false e = rw e

lowered_again : (s : List ℕ) → lowered (lowered s) ≡ lowered s
lowered_again = read_alike lower_byte lower_byte lower_byte lower_again

-- ---- what stands in the sections

module _ (f : File) where
  same_members : member_lists (kept f) ≡ member_lists f
  same_members =
      ap
      (λ (l : List (List (List ℕ))). map (λ g. g.members) f.uags ++ l)
      (read_alike
      (λ g. map lowered g.members)
      (λ g. map lowered g.members)
      lowered_group
      (λ g. read_alike lowered lowered lowered lowered_again g.members)
      f.hags)

  same_links : all_links (kept f) ≡ all_links f
  same_links = ap joined (map_map (λ a. a.inputs) unplaced_asg f.asgs)

  -- the rules of each access group
  rule_lists : map (λ a. a.rules) (map unplaced_asg f.asgs) ≡ map (map unplaced_rule) (map (λ a. a.rules) f.asgs)
  rule_lists = map_map (λ a. a.rules) unplaced_asg f.asgs ∙ sym (map_map (map unplaced_rule) (λ a. a.rules) f.asgs)

  kept_rules : all_rules (kept f) ≡ map unplaced_rule (all_rules f)
  kept_rules = ap joined rule_lists ∙ sym (map_joined unplaced_rule (map (λ a. a.rules) f.asgs))

same_number : (n : ℕ) (s : List ℕ) (gs : List Group) → number_of n s (map lowered_group gs) ≡ number_of n s gs
same_number n s [] = refl
same_number n s (g ∷ gs) = ap (cond (same g.name s) n) (same_number (n + 1) s gs)

same_reference_lists : (f : File) → reference_lists (kept f) ≡ reference_lists f
same_reference_lists f =
    ap
    (λ (rs : List RuleText). joined (map (λ r. references_to f.uags r.uags ∷ references_to (map lowered_group f.hags) r.hags ∷ []) rs))
    (kept_rules f)
    ∙ ap joined (read_alike
    (λ r. references_to f.uags r.uags ∷ references_to (map lowered_group f.hags) r.hags ∷ [])
    (λ r. references_to f.uags r.uags ∷ references_to f.hags r.hags ∷ [])
    unplaced_rule
    (λ r.
    ap (λ (l : List Reference). references_to f.uags r.uags ∷ l ∷ [])
    (map_same (λ s. ap (λ (n : ℕ). record { number = n; name = s }) (same_number 0 s f.hags)) r.hags))
    (all_rules f))

module _ (f : File) where
  same_names : names (kept f) ≡ names f
  same_names =
      rw (
        map_map (λ g. g.name) lowered_group f.hags,
        same_members f,
        map_map (λ a. a.name) unplaced_asg f.asgs,
        same_links f,
        same_reference_lists f,
        kept_rules f,
        map_map (λ r. Option.get_or r.calculation []) unplaced_rule (all_rules f),
      )

  same_spots : (n : ℕ) → spots (kept f) n ≡ spots f n
  same_spots n = ap (λ (l : List (List (List ℕ))). get_or (spread 0 l) n []) same_names

  same_flags : (r : RuleText) → flags (unplaced_rule r) ≡ flags r
  same_flags r = ap (λ (b : Bool). r.level + rank r.permission * 2 + flag r.trap 8 + flag b 16) (still_off r)

  same_records : (s : Section) → records (kept f) s ≡ records f s
  same_records user_groups = rw (same_spots 0)
  same_records host_groups =
      rw (
        same_spots 1,
        map_map (λ g. g.members) lowered_group f.hags,
        ← map_map (map lowered) (λ g. g.members) f.hags,
        runs_map lowered (length (joined (map (λ g. g.members) f.uags))) (map (λ g. g.members) f.hags),
      )
  same_records members = rw (same_spots 2)
  same_records access_groups =
      rw (
        same_spots 3,
        map_map (λ a. a.inputs) unplaced_asg f.asgs,
        rule_lists f,
        runs_map unplaced_rule 0 (map (λ a. a.rules) f.asgs),
      )
  same_records inputs = rw (same_spots 4, same_links f)
  same_records rules =
      rw
      (same_spots 6, same_reference_lists f, kept_rules f)
      (ap
      (λ (l : List (Run → List ℕ)). beside (λ g z. g z) l (spots f 6))
      (beside_alike
      (λ r refs calc. flags r ∷ (refs ++ calculation_words r.calculation calc))
      unplaced_rule
      (λ r refs. ap {B = Run → List ℕ} (λ (n : ℕ) (calc : Run). n ∷ (refs ++ calculation_words r.calculation calc)) (same_flags r))
      (all_rules f)
      (two_runs (runs 0 (reference_lists f)))))
  same_records references = rw (same_spots 5, same_reference_lists f)

  same_content : content (kept f) ≡ content f
  same_content =
      ap₂ (λ (r : Section → List (List ℕ)) (s : List ℕ). record { records = r; strings = s })
      (fun_ext same_records)
      (ap (λ (l : List (List (List ℕ))). joined (joined l)) same_names)

pub same_table : (f : File) → table_of (kept f) ≡ table_of f
unfolding table_of
same_table f = ap layout (same_content f)
