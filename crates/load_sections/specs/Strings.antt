-- The strings, in the order in which the passes write them.
use Rattle.std.specs.Prelude.{List, [], ◌++◌, ℕ}
use Rattle.spec_grammar.specs.declared.Role.TheVariants.{UagName, User, HagName, Host, AsgName, Input, Pvname, RuleWord, Calculation}
use Rattle.spec_grammar.specs.Sentence.{Tagged}
use Rattle.byte_write.specs.Put.{Put}
use Rattle.load_records.specs.declared.Cursor.{Cursor}
use Rattle.load_records.specs.Work.{Texts, Lowered, Firsts}
use Rattle.load_records.specs.Cursor.{Bounded, cursor}
use Rattle.load_passes.specs.Pass.{emits, refer_emits}
use Rattle.load_sections.specs.Sections.{from, limit_strings}

-- a string does not depend on the cursor, so each pass may be said of any
abbrev pub zero_cursor : Cursor
zero_cursor = cursor 0 0 0 0

module _ (xs : List Tagged) where
  -- the names of groups and members
  abbrev pub group_strings : List ℕ
  group_strings =
      emits UagName UagName [] Texts xs zero_cursor
      ++ (emits HagName HagName [] Texts xs zero_cursor
      ++ (emits User User [] Texts (from UagName xs) zero_cursor
      ++ emits Host Host [] Lowered (from HagName xs) zero_cursor))

  -- the names of access groups, inputs and references, and the calculations
  abbrev pub access_strings : List ℕ
  access_strings =
      emits AsgName AsgName [] Texts xs zero_cursor
      ++ (emits Input Pvname [] Firsts (from AsgName xs) zero_cursor
      ++ (refer_emits Texts [] [] (from AsgName xs) zero_cursor
      ++ emits RuleWord Calculation [] Firsts (from AsgName xs) zero_cursor))

  pub record NamesWritten (b c : List ℕ) (p r : Cursor) : Type 0 where
    pub bytes : Put b c p.at group_strings r.at
    pub bounded : Bounded limit_strings r
