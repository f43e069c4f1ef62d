-- A machine that decides whether a slice is a table. That it agrees with Table is proved (proofs/laws/Table.antt: table_is), so nobody has to believe it.
use Rattle.std.specs.Prelude.{Bool, not, ◌&&◌, ◌||◌, List, ℕ}
use Rattle.spec_lists.specs.Select.{all, missing}
use Rattle.spec_lists.specs.Runs.{Run, part}
use Rattle.spec_calc.specs.Reader.{tree_of}
use Rattle.spec_file.specs.Limit.{user_groups, host_groups, rules, longest_calculation}
use Rattle.spec_table.specs.Layout.{Content}
use Rattle.spec_table.specs.View.{view}
pub use Rattle.spec_table.specs.Table.{run_at, members_run, inputs_run, rules_run, letter_field, number_field, flags_field, users_run, hosts_run}
pub use Rattle.spec_table.specs.Table.{calculation_run, name_run, level_bit, permission_bits, trap_bit, bits_from_4, undefined_number, in_turn}
pub use Rattle.spec_table.specs.Table.{sections_stand, counts_fit, runs_stand, string_fits, named_sections, names_fit, no_calculation, numbers_fit}
pub use Rattle.spec_table.specs.Table.{flags_stand, letters_stand}

abbrev pub calculation_stands : Content → Run → Bool
calculation_stands c r =
    no_calculation r || string_fits c longest_calculation r && not (missing (tree_of (part r c.strings)))

abbrev pub rule_stands : Content → List ℕ → Bool
rule_stands c row =
    flags_stand (flags_field row)
    && (calculation_stands c (calculation_run row)
    && (numbers_fit c user_groups (users_run row) && numbers_fit c host_groups (hosts_run row)))

abbrev pub well_formed : Content → Bool
well_formed c = counts_fit c && (runs_stand c && (names_fit c && (letters_stand c && all (rule_stands c) (c.records rules))))

-- 01: "a check of a table"
unfoldable pub is_table : List ℕ → Bool
is_table b = sections_stand b && well_formed (view b)
