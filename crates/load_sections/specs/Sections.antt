-- What the functions that write the sections ask and promise. xs: all tokens of the file.
use Rattle.std.specs.Prelude.{not, List, [], ◌++◌, ◌≡◌, ℕ, ◌+◌, ◌*◌}
use Rattle.spec_lists.specs.Select.{after}
use Rattle.spec_grammar.specs.declared.Role.{Role}
use Rattle.spec_grammar.specs.declared.Role.TheVariants.{UagName, User, HagName, Host, AsgName, Input, Pvname, RuleWord, Calculation}
use Rattle.spec_grammar.specs.Sentence.{Tagged}
use Rattle.spec_file.specs.Contents.{has_role}
use Rattle.byte_write.specs.Put.{Put}
use Rattle.load_flags.specs.Tokens.{size}
use Rattle.load_records.specs.declared.Cursor.{Cursor}
use Rattle.load_records.specs.Work.{Groups, Names, Access, Inputs, References, Rules}
use Rattle.load_records.specs.Cursor.{Bounded, cursor}
use Rattle.load_passes.specs.declared.source.Source.{Source}
use Rattle.load_passes.specs.Source.{all_of, host_names, user_names}
use Rattle.load_passes.specs.Pass.{emits, moves, refer_emits, refer_moves}
use Rattle.load_sections.specs.declared.AccessSections.{AccessSections}
use Rattle.load_sections.specs.declared.GroupSections.{GroupSections}
use Rattle.load_sections.specs.declared.RuleSections.{RuleSections}

-- from the first that says q on
abbrev pub from : Role → List Tagged → List Tagged
from q xs = after (λ x. not (has_role q x)) xs

-- a cursor at the same place, its runs beginning anew
abbrev pub new_runs : Cursor → Cursor
new_runs p = cursor p.at p.string 0 0

-- bounds of the cursor behind sections 3, 5 and 7
abbrev pub limit_3 : ℕ
limit_3 = 1099511627776

abbrev pub limit_5 : ℕ
limit_5 = 2199023255552

abbrev pub limit_7 : ℕ
limit_7 = 140737488355328

-- and behind the strings of groups and members
abbrev pub limit_strings : ℕ
limit_strings = 140741783322624

module _ (xs : List Tagged) where
  -- ---- sections 1 to 3: groups and their members

  abbrev pub behind_1 : Cursor → Cursor
  behind_1 p = moves UagName User [] Groups xs p

  abbrev pub behind_2 : Cursor → Cursor
  behind_2 p = moves HagName Host [] Groups xs (behind_1 p)

  abbrev pub behind_users : Cursor → Cursor
  behind_users p = moves User User [] Names (from UagName xs) (behind_2 p)

  abbrev pub behind_3 : Cursor → Cursor
  behind_3 p = moves Host Host [] Names (from HagName xs) (behind_users p)

  abbrev pub bytes_1_3 : Cursor → List ℕ
  bytes_1_3 p =
      emits UagName User [] Groups xs p
      ++ (emits HagName Host [] Groups xs (behind_1 p)
      ++ (emits User User [] Names (from UagName xs) (behind_2 p)
      ++ emits Host Host [] Names (from HagName xs) (behind_users p)))

  pub record GroupsWritten (b c : List ℕ) (p : Cursor) (r : GroupSections) : Type 0 where
    pub bytes : Put b c p.at (bytes_1_3 p) (behind_3 p).at
    pub two : r.two ≡ (behind_1 p).at
    pub three : r.three ≡ (behind_2 p).at
    pub last : r.cursor ≡ behind_3 p
    pub bounded : Bounded limit_3 r.cursor

  -- ---- sections 4 and 5: access groups and inputs

  abbrev pub behind_4 : Cursor → Cursor
  behind_4 p = moves AsgName AsgName [] Access xs (new_runs p)

  abbrev pub behind_5 : Cursor → Cursor
  behind_5 p = moves Input Pvname [] Inputs (from AsgName xs) (behind_4 p)

  abbrev pub bytes_4_5 : Cursor → List ℕ
  bytes_4_5 p = emits AsgName AsgName [] Access xs (new_runs p) ++ emits Input Pvname [] Inputs (from AsgName xs) (behind_4 p)

  pub record AccessWritten (b c : List ℕ) (p : Cursor) (r : AccessSections) : Type 0 where
    pub bytes : Put b c p.at (bytes_4_5 p) (behind_5 p).at
    pub five : r.five ≡ (behind_4 p).at
    pub last : r.cursor ≡ behind_5 p
    pub bounded : Bounded limit_5 r.cursor

-- ---- sections 6 and 7: rules and references

-- us, hs: the names by which references are numbered
module _ (us hs : List (List ℕ)) (xs : List Tagged) where
  -- a rule has 14 bytes
  abbrev pub at_references : Cursor → Cursor
  at_references p = cursor (p.at + 14 * size RuleWord (from AsgName xs)) p.string 0 0

  abbrev pub behind_7 : Cursor → Cursor
  behind_7 p = refer_moves References us hs (from AsgName xs) (at_references p)

  -- the references' names stand before the rules' calculations
  abbrev pub at_rules : Cursor → Cursor
  at_rules p = cursor p.at (behind_7 p).string 0 0

  abbrev pub behind_6 : Cursor → Cursor
  behind_6 p = moves RuleWord Calculation [] Rules (from AsgName xs) (at_rules p)

  abbrev pub bytes_6 : Cursor → List ℕ
  bytes_6 p = emits RuleWord Calculation [] Rules (from AsgName xs) (at_rules p)

  abbrev pub bytes_7 : Cursor → List ℕ
  bytes_7 p = refer_emits References us hs (from AsgName xs) (at_references p)

  pub record RulesWritten (b c : List ℕ) (p : Cursor) (r : RuleSections) : Type 0 where
    pub bytes : Put b c p.at (bytes_6 p ++ bytes_7 p) (behind_7 p).at
    pub seven : r.seven ≡ (at_references p).at
    pub references : r.references ≡ (behind_6 p).first
    pub last : r.cursor ≡ behind_7 p
    pub bounded : Bounded limit_7 r.cursor

-- the same for the tokens of a file
abbrev pub RulesPut : Source → List ℕ → List ℕ → Cursor → RuleSections → Type 0
RulesPut s b c p r = RulesWritten (user_names s) (host_names s) (all_of s.tokens) b c p r
