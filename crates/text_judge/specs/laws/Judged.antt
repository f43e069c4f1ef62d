-- What a text's faults come to, part by part.
use Rattle.std.specs.Prelude.{◌≡◌, not, List, map, ℕ, ◌+◌, ◌≤◌, ◌<◌, length}
use Rattle.std.proofs.Common.{sym, ap, ◌∙◌, arith}
use Rattle.spec_lists.specs.Text.{same}
use Rattle.spec_lists.specs.Select.{any}
use Rattle.spec_lists.proofs.laws.Any.{any_map}
use Rattle.spec_lists.proofs.laws.Joined.{map_map}
use Rattle.spec_lists.proofs.laws.Runs.{Within}
use Rattle.spec_file.specs.Limit.{Section, access_groups, rules, references}
use Rattle.spec_table.specs.View.{view}
use Rattle.spec_table.specs.Table.{rules_run}
use Rattle.spec_table.specs.Policy.{name, row}
use Rattle.spec_table.proofs.laws.Standing.{stands, rules_within, references_within}
use Rattle.spec_text.specs.Faults.{nowhere_defined, repeated}
use Rattle.spec_export.specs.Says.{group_in, asg_in, file_in}
use Rattle.table_read.specs.Stored.{Stored, word_of}
use Rattle.text_names.specs.Names.{names}
use Rattle.text_judge.specs.Judged.{groups_in}

-- ---- groups by their names

module _ (b : List ℕ) where
  pub undefined_is : (s : Section) (t : List ℕ) → nowhere_defined (groups_in b s) t ≡ not (any (λ y. same y t) (names b s))
  undefined_is s t =
      let rows = (view b).records s in
      ap not (any_map (λ g. same g.name t) (group_in (view b) s) rows ∙ sym (any_map (λ y. same y t) (name (view b) s) rows))

  pub groups_again : (s : Section) → repeated same (map (λ g. g.name) (groups_in b s)) ≡ repeated same (names b s)
  groups_again s = ap (repeated same) (map_map (λ g. g.name) (group_in (view b) s) ((view b).records s))

  pub asgs_again : repeated same (map (λ a. a.name) (file_in (view b)).asgs) ≡ repeated same (names b access_groups)
  asgs_again = ap (repeated same) (map_map (λ a. a.name) (asg_in (view b)) ((view b).records access_groups))

-- ---- a rule

module _ (b : List ℕ) (i : ℕ) (h : Stored b rules i) {e : ℕ} where
  pub users_inside : e ≡ word_of b rules i 1 + word_of b rules i 2 → e ≤ length ((view b).records references)
  users_inside f = omega (arith, (references_within (view b) (stands b h.table).1 i h.inside).0, f)

  pub hosts_inside : e ≡ word_of b rules i 3 + word_of b rules i 4 → e ≤ length ((view b).records references)
  hosts_inside f = omega (arith, (references_within (view b) (stands b h.table).1 i h.inside).1, f)

-- ---- the rules of a group, and the groups

pub rules_inside :
    (b : List ℕ) (g : ℕ) → Stored b access_groups g → Within (length ((view b).records rules)) (rules_run (row (view b) access_groups g))
rules_inside b g h = rules_within (view b) (stands b h.table).1 g h.inside

pub rule_stored :
    (b : List ℕ) (g : ℕ) → Stored b access_groups g → {e : ℕ} → e ≡ word_of b access_groups g 4 + word_of b access_groups g 5
    → (i : ℕ) → i < e → Stored b rules i
rule_stored b g h f i l = record { table = h.table; inside = omega (arith, rules_inside b g h, f) }
