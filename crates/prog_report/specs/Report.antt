-- What the two programs print for a file that is refused, and the checker for a warning. 01, "Two programs".
use Rattle.std.specs.Prelude.{List, ◌++◌, ℕ}
use Rattle.spec_lists.specs.Text.{bytes}
use Rattle.spec_file.specs.declared.Refusal.{Refusal}
use Rattle.spec_file.specs.Refusal as refusal
use Rattle.prog_text.specs.Text.{decimal_digits, line}

-- a number and a place behind a word
unfoldable pub placed : List ℕ → ℕ → ℕ → List ℕ
placed w n p = w ++ (decimal_digits n ++ (bytes " at " ++ decimal_digits p))

-- 01: "`refusal N at P`"
abbrev pub refusal_line : Refusal → ℕ → List ℕ
refusal_line k p = line (placed (bytes "refusal ") (refusal.number k) p)

-- 01: `warning 1 at 11`
abbrev pub warning_line : ℕ → ℕ → List ℕ
warning_line n p = line (placed (bytes "warning ") n p)
