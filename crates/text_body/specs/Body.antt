-- The text of a rule's body.
use Rattle.std.specs.Prelude.{List, ℕ}
use Rattle.spec_table.specs.Layout.{Content}
use Rattle.spec_table.specs.Policy.{rule_of}
use Rattle.spec_text.specs.Lines.{reference_line, calculation_line, predicate_lines, ended}
use Rattle.spec_export.specs.Says.{rule_text_in}

-- the line of the groups of a kind that a rule names
abbrev pub references_text : List ℕ → List (List ℕ) → List ℕ
references_text word ss = ended (reference_line word ss)

abbrev pub calculation_text : Content → List ℕ → List ℕ
calculation_text c row = ended (calculation_line (rule_of c row).calculation)

-- the lines of a rule's body
abbrev pub body_lines : Content → List ℕ → List (List ℕ)
body_lines c row = predicate_lines (rule_text_in c row)
