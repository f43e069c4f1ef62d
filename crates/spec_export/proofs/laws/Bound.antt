-- How long the text of a table can be.
use Rattle.std.specs.Prelude.{◌≡◌, true, ◌≤◌, length}
use Rattle.spec_table.specs.Layout.{Content}
use Rattle.spec_table.specs.Check.{well_formed}
use Rattle.spec_text.specs.Lines.{greatest_text}
use Rattle.spec_text.proofs.laws.Length.{text_bounded}
use Rattle.spec_export.specs.Says.{file_in}
use Rattle.spec_export.specs.Unwritable.{text_in}
use Rattle.spec_export.proofs.laws.Limits.{keeps}

pub text_in_bounded : (c : Content) → well_formed c ≡ true → length (text_in c) ≤ greatest_text
text_in_bounded c w = text_bounded (file_in c) (keeps c w)
