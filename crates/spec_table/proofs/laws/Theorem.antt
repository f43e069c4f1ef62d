-- The table of a file: it is a table, holds what the file says and has its place in 35,108 bytes. Zeros are no table.
use Rattle.std.specs.Prelude.{◌≡◌, refl, true, false, List, ◌++◌, ℕ, zero, suc, ◌≤◌, length, replicate}
use Rattle.std.proofs.Common.{◌∙◌}
use Rattle.std.proofs.Math.Bool.{and-false}
use Rattle.spec_file.specs.Contents.{File}
use Rattle.spec_table.specs.Layout.{greatest_table}
use Rattle.spec_table.specs.View.{view}
use Rattle.spec_table.specs.Check.{is_table}
use Rattle.spec_table.specs.Written.{content, table_of}
use Rattle.spec_table.proofs.laws.Fits.{Fits}
use Rattle.spec_table.proofs.laws.Bytes.{view_back, layout_length, is_table_back}
use Rattle.spec_table.proofs.laws.Stands.{content_sound, content_stands}

-- what stands in a file's table is the file's content
pub viewed : (f : File) → Fits f → (rest : List ℕ) → view (table_of f ++ rest) ≡ content f
unfolding table_of
viewed f ok rest = view_back (content f) (content_sound f ok) rest

pub is_a_table : (f : File) → Fits f → (rest : List ℕ) → is_table (table_of f ++ rest) ≡ true
unfolding table_of
is_a_table f ok rest = is_table_back (content f) (content_sound f ok) rest ∙ content_stands f ok

pub table_length : (f : File) → Fits f → length (table_of f) ≤ greatest_table
unfolding table_of
table_length f ok = layout_length (content f) (content_sound f ok)

pub zeros_no_table : (n : ℕ) → is_table (replicate n 0) ≡ false
unfolding is_table
zeros_no_table zero = refl
zeros_no_table (suc zero) = refl
zeros_no_table (suc (suc n)) = rw and-false
