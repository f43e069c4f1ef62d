-- How long a line is.
use Rattle.std.specs.Prelude.{◌∷◌, [], List, ◌++◌, ◌≡◌, ℕ, ◌+◌, ◌≤◌, ◌<◌, length}
use Rattle.std.proofs.Common.{arith, length-append}
use Rattle.spec_lists.specs.Text.{bytes}
use Rattle.spec_file.specs.declared.Refusal.{Refusal}
use Rattle.spec_file.specs.Refusal as refusal
use Rattle.spec_file.proofs.laws.Numbered.{number_small}
use Rattle.prog_text.specs.Text.{decimal_digits}
use Rattle.prog_report.specs.Report.{placed, refusal_line}
use Rattle.prog_text.specs.laws.Digits.{few_digits}

pub placed_length : (w : List ℕ) (n p : ℕ) → length (placed w n p) ≡ length w + length (decimal_digits n) + 4 + length (decimal_digits p)
unfolding placed
placed_length w n p =
    omega (
      arith,
      length-append w (decimal_digits n ++ (bytes " at " ++ decimal_digits p)),
      length-append (decimal_digits n) (bytes " at " ++ decimal_digits p),
      length-append (bytes " at ") (decimal_digits p),
    )

-- a refusal whose place has 20 digits at most
pub short_refusal : (k : Refusal) (p : ℕ) → p < 100000000000000000000 → length (refusal_line k p) ≤ 64
short_refusal k p h =
    omega (
      arith,
      length-append (placed (bytes "refusal ") (refusal.number k) p) (10 ∷ []),
      placed_length (bytes "refusal ") (refusal.number k) p,
      few_digits 1 (refusal.number k) (omega (arith, number_small k)),
      few_digits 19 p (omega arith),
    )
