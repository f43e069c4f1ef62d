-- How a table's content is read out of bytes. 01, "The stored table".
use Rattle.std.specs.Prelude.{List, [], ◌∷◌, ◌++◌, map, ℕ, ◌+◌, ◌*◌, take, get_or}
use Rattle.spec_lists.specs.Runs.{Run, part}
use Rattle.spec_lists.specs.Words.{words, records_of}
use Rattle.spec_file.specs.Limit.{Section, order}
use Rattle.spec_table.specs.Layout.{Content, sections, width, header_bytes}

abbrev pub header_word : List ℕ → ℕ → ℕ
header_word b i = get_or (words (take header_bytes b)) i 0

abbrev pub form_of : List ℕ → ℕ
form_of b = header_word b 0

abbrev pub total_of : List ℕ → ℕ
total_of b = header_word b 1

abbrev pub strings_order : ℕ
strings_order = 7

-- the count and the offset of the n-th section
abbrev pub count_of : List ℕ → ℕ → ℕ
count_of b n = header_word b (2 + n * 2)

abbrev pub offset_of : List ℕ → ℕ → ℕ
offset_of b n = header_word b (3 + n * 2)

-- where the bytes of a section stand: a record's words are two bytes each, the strings' count is bytes
abbrev pub extent : List ℕ → Section → Run
extent b s = record { first = offset_of b (order s); count = count_of b (order s) * (width s * 2) }

abbrev pub strings_extent : List ℕ → Run
strings_extent b = record { first = offset_of b strings_order; count = count_of b strings_order }

abbrev pub extents : List ℕ → List Run
extents b = map (extent b) sections ++ (strings_extent b ∷ [])

-- what bytes hold, read as a table
unfoldable pub view : List ℕ → Content
view b =
    record {
      records = λ s. records_of (width s) (count_of b (order s)) (words (part (extent b s) b));
      strings = part (strings_extent b) b;
    }
