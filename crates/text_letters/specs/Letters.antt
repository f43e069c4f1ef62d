-- The letters that an access group gives inputs, as an array of 21, and a calculation judged by them.
use Rattle.std.specs.Prelude.{◌≡◌, Bool, false, List, ℕ, eqb, get_or}
use Rattle.spec_lists.specs.Select.{any}
use Rattle.spec_file.specs.Limit.{access_groups, rules}
use Rattle.spec_table.specs.View.{view}
use Rattle.spec_table.specs.Policy.{row}
use Rattle.spec_text.specs.Faults.{calculation_faulty, letters_of}
use Rattle.spec_export.specs.Says.{rule_text_in, asg_in}

-- the letters of the i-th access group's inputs
abbrev pub letters_in : List ℕ → ℕ → List ℕ
letters_in b i = letters_of (asg_in (view b) (row (view b) access_groups i))

-- an array says of each letter whether it is among some
pub record LettersAre (given : List Bool) (ls : List ℕ) : Type 0 where
  pub each : (l : ℕ) → get_or given l false ≡ any (eqb l) ls

-- whether the calculation of the i-th rule is faulty, by the letters that an array gives
abbrev pub CalculationJudged : List ℕ → ℕ → List Bool → Bool → Type 0
CalculationJudged b i given r =
    (ls : List ℕ) → LettersAre given ls → r ≡ calculation_faulty ls (rule_text_in (view b) (row (view b) rules i)).calculation
