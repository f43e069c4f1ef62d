-- A file that keeps to the limits of 01, "Load refusals, in their order", 5 and 6, and whose calculations are allowed.
use Rattle.std.specs.Prelude.{◌≡◌, false, List, ℕ, ◌≤◌, length, take}
use Rattle.std.proofs.Math.Option.{Option, none, some}
use Rattle.spec_lists.specs.Select.{joined, missing}
use Rattle.spec_lists.specs.Every.{Every}
use Rattle.spec_calc.specs.Reader.{tree_of}
use Rattle.spec_rule.specs.Answering.{greatest_level}
use Rattle.spec_file.specs.Limit.{user_groups, host_groups, members, access_groups, inputs, rules, references, most, most_bytes, longest_name}
use Rattle.spec_file.specs.Limit.{longest_calculation}
use Rattle.spec_file.specs.Contents.{File}
use Rattle.spec_token.specs.Word.{greatest_letter}
use Rattle.spec_table.specs.Written.{member_lists, all_links, all_rules, reference_lists, names}

pub data CalculationFits : Option (List ℕ) → Type 0 where
  no_calculation : CalculationFits none
  allowed : {s : List ℕ} → length s ≤ longest_calculation → missing (tree_of s) ≡ false → CalculationFits (some s)

pub record Fits (f : File) : Type 0 where
  pub uag_count : length f.uags ≤ most user_groups
  pub hag_count : length f.hags ≤ most host_groups
  pub member_count : length (joined (member_lists f)) ≤ most members
  pub asg_count : length f.asgs ≤ most access_groups
  pub input_count : length (all_links f) ≤ most inputs
  pub rule_count : length (all_rules f) ≤ most rules
  pub reference_count : length (joined (reference_lists f)) ≤ most references
  pub string_bytes : length (joined (joined (names f))) ≤ most_bytes
  -- all names but the calculations, which come last
  pub name_lengths : Every (Every (λ s. length s ≤ longest_name)) (take 6 (names f))
  pub calculations : Every (λ r. CalculationFits r.calculation) (all_rules f)
  pub letters : Every (λ i. i.letter ≤ greatest_letter) (all_links f)
  pub levels : Every (λ r. r.level ≤ greatest_level) (all_rules f)
