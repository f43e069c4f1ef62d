-- When a table is refused with 27. 02, ticket 6.
use Rattle.std.specs.Prelude.{Bool, not, ◌||◌, List, map, ℕ}
use Rattle.spec_lists.specs.Select.{all, joined}
use Rattle.spec_token.specs.Token.{BetweenQuotes}
use Rattle.spec_rule.specs.Privilege.{Some}
use Rattle.spec_file.specs.declared.Refusal.{Refusal}
use Rattle.spec_file.specs.Acceptance.{HasCause}
use Rattle.spec_table.specs.Layout.{Content, sections}
use Rattle.spec_table.specs.Policy.{name}
use Rattle.spec_text.specs.Lines.{text_of}
use Rattle.spec_text.specs.Faults.{quotable, faulty}
use Rattle.spec_export.specs.Says.{file_in}

-- the text of a table
abbrev pub text_in : Content → List ℕ
text_in c = text_of (file_in c)

-- the strings that records name, a rule's being its calculation
abbrev pub strings_in : Content → List (List ℕ)
strings_in c = joined (map (λ s. map (name c s) (c.records s)) sections)

-- "27 a string holding bytes that no quoted text can hold, or a text with a cause for any of today's load refusals but 1 and 11"
pub data Unwritable (c : Content) : Type 0 where
  unquotable : Some (λ s. BetweenQuotes s → ⊥) (strings_in c) → Unwritable c
  caused : {r : Refusal} {p : ℕ} → HasCause (text_in c) r p → Unwritable c

-- ---- A machine that decides it of every table. That it agrees is proved (proofs/laws/Unwritable.antt), so nobody has to believe it.

abbrev pub unwritable : Content → Bool
unwritable c = not (all quotable (strings_in c)) || faulty (file_in c)
