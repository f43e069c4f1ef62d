-- The header, from what the functions that write the sections return.
use Rattle.std.specs.Prelude.{List, [], ◌∷◌, ◌≡◌, ◌+◌, ℕ, ◌-◌}
use Rattle.spec_grammar.specs.declared.Role.TheVariants.{UagName, User, HagName, Host, AsgName, Input, RuleWord}
use Rattle.spec_grammar.specs.Sentence.{Tagged}
use Rattle.load_flags.specs.Tokens.{size}
use Rattle.load_sections.specs.declared.AccessSections.{AccessSections}
use Rattle.load_sections.specs.declared.GroupSections.{GroupSections}
use Rattle.load_sections.specs.declared.RuleSections.{RuleSections}
use Rattle.load_sections.specs.Sections.{from}
use Rattle.load_write.specs.declared.Counts.{Counts}

-- the counts of sections 1 to 6
pub record CountsRight (xs : List Tagged) (r : Counts) : Type 0 where
  pub uags : r.uags ≡ size UagName xs
  pub hags : r.hags ≡ size HagName xs
  pub members : r.members ≡ size User (from UagName xs) + size Host (from HagName xs)
  pub asgs : r.asgs ≡ size AsgName xs
  pub inputs : r.inputs ≡ size Input (from AsgName xs)
  pub rules : r.rules ≡ size RuleWord (from AsgName xs)

-- 01: "form (1), total length, then count and byte offset of eight sections"
abbrev pub header_of : Counts → GroupSections → AccessSections → RuleSections → ℕ → List ℕ
header_of c groups access rules end =
    1
    ∷ end
    ∷ c.uags ∷ 36
    ∷ c.hags ∷ groups.two
    ∷ c.members ∷ groups.three
    ∷ c.asgs ∷ groups.cursor.at
    ∷ c.inputs ∷ access.five
    ∷ c.rules ∷ access.cursor.at
    ∷ rules.references ∷ rules.seven
    ∷ (end - rules.cursor.at) ∷ rules.cursor.at
    ∷ []
