-- 01's example of a warning.
use Rattle.std.specs.Prelude.{◌≡◌, refl}
use Rattle.spec_lists.specs.Text.{bytes}
use Rattle.prog_text.specs.Text.{digits_in, decimal_digits, line}
use Rattle.prog_report.specs.Report.{placed, warning_line}

a_warning : warning_line 2 54 ≡ line (bytes "warning 2 at 54")
unfolding placed decimal_digits digits_in
a_warning = refl
