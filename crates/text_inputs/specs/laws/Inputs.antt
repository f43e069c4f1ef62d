-- The letter of an input.
use Rattle.std.specs.Prelude.{◌≡◌, refl, true, List, [], ℕ, ◌≤◌, leb}
use Rattle.std.proofs.Common.{leb-true}
use Rattle.spec_lists.proofs.laws.Every.{all_every, every_at}
use Rattle.spec_token.specs.Word.{greatest_letter}
use Rattle.spec_file.specs.Limit.{inputs}
use Rattle.spec_table.specs.View.{view}
use Rattle.spec_table.specs.Check.{is_table, letter_field}
use Rattle.spec_table.specs.Policy.{row}
use Rattle.spec_table.proofs.laws.Table.{table_is}

pub letter_low : (b : List ℕ) → is_table b ≡ true → (i : ℕ) → letter_field (row (view b) inputs i) ≤ greatest_letter
letter_low b h i =
    leb-true
    (letter_field (row (view b) inputs i))
    greatest_letter
    (every_at
    {P = λ w. leb (letter_field w) greatest_letter ≡ true}
    i
    []
    refl
    (all_every (λ w. leb (letter_field w) greatest_letter) ((view b).records inputs) ((table_is b).0 h).letters))
