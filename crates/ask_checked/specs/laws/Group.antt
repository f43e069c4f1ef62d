-- The rules of an access group, one by one, and how many they are.
use Rattle.std.specs.Prelude.{◌≡◌, List, [], ◌∷◌, ℕ, ◌+◌, ◌≤◌, ◌<◌, length, drop}
use Rattle.std.proofs.Common.{◌∙◌, arith}
use Rattle.std.proofs.lemmas.List.{length-map}
use Rattle.spec_lists.specs.Runs.{Run, part}
use Rattle.spec_rule.proofs.laws.Walk.{part_count, read_on, read_end}
use Rattle.spec_file.specs.Limit.{access_groups, rules, most}
use Rattle.spec_table.specs.View.{view}
use Rattle.spec_table.specs.Check.{rules_run}
use Rattle.spec_table.specs.Policy.{rule_of, row}
use Rattle.spec_table.proofs.laws.Standing.{stands, rules_within, records_few}
use Rattle.table_read.specs.Stored.{Stored}
use Rattle.ask_rule.specs.Rules.{rule_at}
use Rattle.ask_checked.specs.Group.{group_rules}

module _ (b : List ℕ) (i : ℕ) (h : Stored b access_groups i) where
  abbrev run : Run
  run = rules_run (row (view b) access_groups i)

  run_inside : run.first + run.count ≤ length ((view b).records rules)
  run_inside = rules_within (view b) (stands b h.table).1 i h.inside

  pub group_counted : length (group_rules b i) ≡ run.count
  group_counted = length-map (part run ((view b).records rules)) (rule_of (view b)) ∙ part_count run ((view b).records rules) run_inside

  pub group_few : length (group_rules b i) ≤ most rules
  group_few = omega (arith, group_counted, run_inside, records_few (view b) (stands b h.table).1 rules)

  pub rule_stored : (k : ℕ) → k < run.first + run.count → Stored b rules k
  rule_stored k l = record { table = h.table; inside = omega (arith, run_inside) }

  pub group_on : (k : ℕ) → k < run.count → drop k (group_rules b i) ≡ rule_at b (run.first + k) ∷ drop (k + 1) (group_rules b i)
  group_on k l = read_on (rule_of (view b)) run ((view b).records rules) [] k run_inside l

  pub group_end : (k : ℕ) → run.count ≤ k → drop k (group_rules b i) ≡ []
  group_end k l = read_end (rule_of (view b)) run ((view b).records rules) k l
