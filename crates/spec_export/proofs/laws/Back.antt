-- The text of a file's table is accepted, and its table is the file's, byte for byte.
use Rattle.std.specs.Prelude.{◌≡◌, Bool, true, false, not, ◌||◌, map, ◌≤◌, length}
use Rattle.std.proofs.Common.{sym, ap, subst, ◌∙◌}
use Rattle.spec_lists.specs.Select.{all}
use Rattle.spec_lists.proofs.laws.Both.{neither}
use Rattle.spec_file.specs.Limit.{most_bytes}
use Rattle.spec_file.specs.Contents.{File, file_of}
use Rattle.spec_file.specs.Acceptance.{Acceptable}
use Rattle.spec_table.specs.Written.{content, table_of}
use Rattle.spec_table.proofs.laws.Fits.{Fits}
use Rattle.spec_table.proofs.laws.Stands.{content_stands}
use Rattle.spec_text.specs.Lines.{text_of}
use Rattle.spec_text.specs.Faults.{quotable, defines_nothing, faulty}
use Rattle.spec_text.proofs.laws.Pieces.{said_at, file_pieces}
use Rattle.spec_text.proofs.laws.Keeps.{Quotable, Keeps}
use Rattle.spec_text.proofs.laws.Unplaced.{lowered_group, kept}
use Rattle.spec_text.proofs.laws.KeptText.{same_faults, same_definitions, quotable_kept}
use Rattle.spec_text.proofs.laws.Read.{text_reads, shallow}
use Rattle.spec_text.proofs.laws.Says.{says}
use Rattle.spec_text.proofs.laws.Clear.{uncaused}
use Rattle.spec_export.specs.Says.{file_in}
use Rattle.spec_export.specs.Unwritable.{strings_in, unwritable}
use Rattle.spec_export.proofs.laws.Kept.{says_kept}
use Rattle.spec_export.proofs.laws.SameTable.{same_table}
use Rattle.spec_export.proofs.laws.Limits.{keeps}
use Rattle.spec_export.proofs.laws.QuotesBack.{quotable_strings}

-- hosts in lower case
abbrev lower : File → File
lower f = record { uags = f.uags; hags = map lowered_group f.hags; asgs = f.asgs }

module _ (f : File) (ok : Fits f) (q : Quotable f) where
  -- of a file's own table, 27 is decided by the file
  pub file_unwritable : unwritable (content f) ≡ faulty f
  file_unwritable =
      let w = content_stands f ok in
      let quoted : all quotable (strings_in (content f)) ≡ true =
      quotable_strings (content f) w (subst Quotable (sym (says_kept f ok)) (quotable_kept f q)) in
      ap (λ (b : Bool). not b || faulty (file_in (content f))) quoted ∙ (ap faulty (says_kept f ok) ∙ same_faults f)

  module _ (e : faulty f ≡ false) where
    limits : Keeps (kept f)
    limits = subst Keeps (says_kept f ok) (keeps (content f) (content_stands f ok))

    -- a text that is not too long is accepted
    pub accepted_back : length (text_of (kept f)) ≤ most_bytes → Acceptable (text_of (kept f)) (said_at 0 (file_pieces (kept f)))
    accepted_back l =
        record {
          short = l;
          as_read = text_reads (kept f) (quotable_kept f q) limits.named (same_definitions f ∙ (neither (defines_nothing f) _ e).0);
          shallow = shallow (kept f);
          uncaused = uncaused (kept f) 0 limits (same_faults f ∙ e);
        }

    -- for the file's own table
    pub table_back : table_of (file_of (said_at 0 (file_pieces (kept f)))) ≡ table_of f
    table_back =
        let g = file_of (said_at 0 (file_pieces (kept f))) in
        let alike : kept g ≡ kept (kept f) = ap lower (says (kept f) 0 limits.named) in
        sym (same_table g) ∙ (ap table_of alike ∙ (same_table (kept f) ∙ same_table f))
