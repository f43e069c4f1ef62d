-- How a table's content is laid down in bytes. 01, "The stored table".
use Rattle.std.specs.Prelude.{List, [], ◌∷◌, ◌++◌, map, ℕ, ◌+◌, length}
use Rattle.spec_lists.specs.Select.{joined}
use Rattle.spec_lists.specs.Runs.{Run, runs}
use Rattle.spec_lists.specs.Words.{spelled_out}
use Rattle.spec_file.specs.Limit.{Section, user_groups, host_groups, members, access_groups, inputs, rules, references}

-- the records of each section, and the strings
pub record Content : Type 0 where
  pub records : Section → List (List ℕ)
  pub strings : List ℕ

-- 01: "eight sections, which follow without gaps in this order"; the strings are the eighth
abbrev pub sections : List Section
sections = user_groups ∷ host_groups ∷ members ∷ access_groups ∷ inputs ∷ rules ∷ references ∷ []

-- the words of a record: "name, first member, count" are four, a name being two
abbrev pub width : Section → ℕ
width user_groups = 4
width host_groups = 4
width members = 2
width access_groups = 6
width inputs = 3
width rules = 7
width references = 3

-- 01: "form (1)"
abbrev pub form : ℕ
form = 1

-- 01: "A header of 36 bytes"
abbrev pub header_bytes : ℕ
header_bytes = 36

-- the bytes of each section
abbrev pub blocks : Content → List (List ℕ)
blocks c = map (λ s. spelled_out (joined (c.records s))) sections ++ (c.strings ∷ [])

-- how many stand in each section; of the strings "its count being bytes"
abbrev pub counts : Content → List ℕ
counts c = map (λ s. length (c.records s)) sections ++ (length c.strings ∷ [])

-- "count and byte offset of eight sections"
abbrev pub entries : List ℕ → List Run → List ℕ
entries [] rs = []
entries (n ∷ ns) [] = []
entries (n ∷ ns) (r ∷ rs) = n ∷ r.first ∷ entries ns rs

-- 01: "A header of 36 bytes: form (1), total length, then count and byte offset of eight sections"
abbrev pub header : Content → List ℕ
header c = form ∷ (header_bytes + length (joined (blocks c))) ∷ entries (counts c) (runs header_bytes (blocks c))

-- the bytes of a table
unfoldable pub layout : Content → List ℕ
layout c = spelled_out (header c) ++ joined (blocks c)

-- 01: "No table exceeds 35,108 bytes."
abbrev pub greatest_table : ℕ
greatest_table = 35108
