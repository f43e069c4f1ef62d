-- Where the words of a table's records stand.
use Rattle.std.specs.Prelude.{◌≡◌, List, ℕ, ◌+◌, ◌<◌, length}
use Rattle.std.proofs.Common.{arith}
use Rattle.spec_file.specs.Limit.{Section, order}
use Rattle.spec_table.specs.Layout.{width}
use Rattle.spec_table.specs.View.{count_of}
use Rattle.spec_table.specs.Fields.{word_at, field_place}
use Rattle.spec_table.proofs.laws.Bytes.{each}
use Rattle.spec_table.proofs.laws.Fields.{view_count, field_inside, field_at}
use Rattle.table_fields.specs.Field.{word_of, HasField}

module _ (b : List ℕ) (s : Section) (i j : ℕ) (p : HasField b s i j) where
  counted : i < count_of b (order s)
  counted = rw (view_count b s) at p.row

  pub has_inside : field_place b s i j + 1 < length b
  has_inside = field_inside b p.stand s i j counted p.field

  pub has_word : word_of b s i j ≡ word_at b (field_place b s i j)
  has_word = field_at b p.stand s i j counted p.field

pub order_small : (s : Section) → order s < 7
order_small = each (λ s. order s < 7) (omega arith) (omega arith) (omega arith) (omega arith) (omega arith) (omega arith) (omega arith)

pub width_small : (s : Section) → width s < 8
width_small = each (λ s. width s < 8) (omega arith) (omega arith) (omega arith) (omega arith) (omega arith) (omega arith) (omega arith)

pub two_words : (s : Section) → 1 < width s
two_words = each (λ s. 1 < width s) (omega arith) (omega arith) (omega arith) (omega arith) (omega arith) (omega arith) (omega arith)
