-- The whole table as the passes write it: one pass for each kind of record and of string, the cursor going on from pass to pass.
use Rattle.std.specs.Prelude.{List, [], ◌++◌, ◌∷◌, ℕ, ◌+◌, length}
use Rattle.spec_lists.specs.Words.{spelled_out}
use Rattle.spec_grammar.specs.declared.Role.TheVariants.{UagName, User, HagName, Host, AsgName, Input, RuleWord}
use Rattle.spec_grammar.specs.Sentence.{Tagged}
use Rattle.spec_table.specs.Layout.{header_bytes, form}
use Rattle.load_flags.specs.Tokens.{size}
use Rattle.load_records.specs.declared.Cursor.{Cursor}
use Rattle.load_records.specs.Cursor.{cursor}
use Rattle.load_sections.specs.Sections.{at_references, behind_1, behind_2, behind_3, behind_4, behind_5, behind_6, behind_7, bytes_1_3, bytes_4_5, bytes_6}
use Rattle.load_sections.specs.Sections.{bytes_7, from}
use Rattle.load_sections.specs.Strings.{access_strings, group_strings}

-- us, hs: the names by which references are numbered; cursor-k stands behind section k
module _ (us hs : List (List ℕ)) (xs : List Tagged) where
  abbrev pub cursor_0 : Cursor
  cursor_0 = cursor header_bytes 0 0 0

  abbrev pub cursor_3 : Cursor
  cursor_3 = behind_3 xs cursor_0

  abbrev pub cursor_5 : Cursor
  cursor_5 = behind_5 xs cursor_3

  abbrev pub cursor_7 : Cursor
  cursor_7 = behind_7 us hs xs cursor_5

  abbrev pub strings : List ℕ
  strings = group_strings xs ++ access_strings xs

  -- all that stands behind the header
  abbrev pub body : List ℕ
  body = bytes_1_3 xs cursor_0 ++ (bytes_4_5 xs cursor_3 ++ ((bytes_6 us hs xs cursor_5 ++ bytes_7 us hs xs cursor_5) ++ strings))

  abbrev pub header_words : List ℕ
  header_words =
      form
      ∷ (header_bytes + length body)
      ∷ size UagName xs ∷ cursor_0.at
      ∷ size HagName xs ∷ (behind_1 xs cursor_0).at
      ∷ (size User (from UagName xs) + size Host (from HagName xs)) ∷ (behind_2 xs cursor_0).at
      ∷ size AsgName xs ∷ cursor_3.at
      ∷ size Input (from AsgName xs) ∷ (behind_4 xs cursor_3).at
      ∷ size RuleWord (from AsgName xs) ∷ cursor_5.at
      ∷ (behind_6 us hs xs cursor_5).first ∷ (at_references us hs xs cursor_5).at
      ∷ length strings ∷ cursor_7.at
      ∷ []

-- all that is written
abbrev pub whole_table : List (List ℕ) → List (List ℕ) → List Tagged → List ℕ
whole_table us hs xs = spelled_out (header_words us hs xs) ++ body us hs xs
