-- The cases, proved by computation from the texts.
use Rattle.std.specs.Prelude.{refl}
use Rattle.std.specs.Float.Ieee.{ne, lt, le, eq, add, sub, mul, div, neg, of_bits, of_int}
use Rattle.spec_token.specs.Scanner.{scan}
use Rattle.spec_calc.specs.Scanner.{symbols_in}
use Rattle.spec_calc.specs.Value.{value, evaluated}
use Rattle.spec_calc.specs.Reader.{tree_of, run, reduce}
use Rattle.spec_file.specs.Load.{verdict}
use Rattle.spec_table.specs.Layout.{layout}
use Rattle.spec_table.specs.View.{view}
use Rattle.spec_table.specs.Check.{is_table}
use Rattle.spec_table.specs.Written.{table_of}
use Rattle.spec_load.specs.Load.{load}
use Rattle.spec_decision.specs.Decision.{decide}
use Rattle.spec_text.specs.Lines.{text_of}
use Rattle.spec_export.specs.Export.{exported}
use Rattle.spec_demand.specs.Cases.{ProvedCases, ArithmeticCases, RoleCases, GroupCases, LetterCases, TextCases}

pub proved_cases : ProvedCases
unfolding load verdict scan table_of layout is_table view decide tree_of run reduce symbols_in value evaluated ne lt le eq add sub mul div neg of_bits of_int
proved_cases =
    record {
      question_1 = refl;
      question_2 = refl;
      question_3 = refl;
      question_4 = refl;
      under_bound = refl;
      over_bound = refl;
      under_by_division = refl;
      one = refl;
      not_a_number = refl;
      lower_level = refl;
      higher_level = refl;
      no_group = refl;
    }

pub arithmetic_cases : ArithmeticCases
unfolding load verdict scan table_of layout is_table view decide tree_of run reduce symbols_in value evaluated ne lt le eq add sub mul div neg of_bits of_int
arithmetic_cases =
    record {
      moving = refl;
      calm = refl;
      zero_over_zero = refl;
      right_of_or = refl;
      left_of_or = refl;
      right_of_and = refl;
      left_of_and = refl;
      second_not_chosen = refl;
      first_not_chosen = refl;
      guarded_zero = refl;
      guarded_ratio = refl;
      chosen = refl;
      condition = refl;
      compared = refl;
      divided_by = refl;
      negated = refl;
      denied = refl;
      differing = refl;
      overflow = refl;
      no_overflow = refl;
    }

pub role_cases : RoleCases
unfolding load verdict scan table_of layout is_table view decide tree_of
role_cases =
    record {
      by_user = refl;
      by_role = refl;
      other_role = refl;
      no_user_name = refl;
      not_the_prefix = refl;
      no_role_by_name = refl;
      another_prefix = refl;
      empty_role = refl;
      no_host_role = refl;
      sixteen = refl;
      seventeen = refl;
      too_long = refl;
      level_first = refl;
    }

pub group_cases : GroupCases
unfolding load verdict scan table_of layout is_table view decide tree_of
group_cases =
    record {
      misspelt = refl;
      as_defined = refl;
      defined_behind = refl;
      uag_by_hag = refl;
      hag_by_uag = refl;
      switched_off = refl;
      in_unknown = refl;
      by_unknown = refl;
      second_rule = refl;
      after_seven = refl;
      before_eight = refl;
      whole_output = refl;
      still_table = refl;
      no_members = refl;
    }

pub letter_cases : LetterCases
unfolding load verdict scan table_of layout is_table view decide tree_of run reduce symbols_in value evaluated ne lt le eq add sub mul div neg of_bits of_int
letter_cases =
    record {
      not_the_first = refl;
      not_a_good_one = refl;
      branch_not_chosen = refl;
      small_letter = refl;
      by_arithmetic = refl;
      letter_before_arithmetic = refl;
      a_value = refl;
      first_rule = refl;
      lower_permission_first = refl;
      passed_by = refl;
      no_higher = refl;
      write_anyway = refl;
      gives_none = refl;
      by_user_too = refl;
      by_host_too = refl;
      by_level_too = refl;
      switched_off_too = refl;
      by_arithmetic_only = refl;
    }

pub text_cases : TextCases
unfolding load verdict scan table_of layout is_table view tree_of run reduce symbols_in text_of exported
text_cases =
    record {
      members = refl;
      hosts = refl;
      escaped = refl;
      order = refl;
      unknown = refl;
      predicates = refl;
      no_table = refl;
      no_definition = refl;
      bare_quote = refl;
      bare_newline = refl;
      odd_backslash = refl;
      two_members = refl;
      name_again = refl;
      not_defined = refl;
      no_input = refl;
      too_little = refl;
      control_byte = refl;
      by_number = refl;
      without_number = refl;
    }
