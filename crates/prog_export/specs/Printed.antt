-- What the program export prints for a file. 02, ticket 6: "Write the rules back as text".
use Rattle.std.specs.Prelude.{◌≡◌, List, ℕ, ◌≤◌, length, take}
use Rattle.io.specs.Counts.{IsPrefixLen}
use Rattle.spec_table.specs.View.{view}
use Rattle.spec_load.specs.declared.Loaded.{Loaded}
use Rattle.spec_load.specs.declared.Loaded.TheVariants as loaded
use Rattle.spec_load.specs.Load.{load}
use Rattle.spec_text.specs.Lines.{greatest_text}
use Rattle.spec_export.specs.declared.Exported.{Exported}
use Rattle.spec_export.specs.declared.Exported.TheVariants as exports
use Rattle.spec_export.specs.Unwritable.{text_in}
use Rattle.spec_export.specs.Export.{number, exported}
use Rattle.prog_text.specs.Text.{line}
use Rattle.prog_text.specs.Put.{Put}
use Rattle.prog_report.specs.Report.{refusal_line}
use Rattle.prog_words.specs.Words.{refused_by}

-- the text, or `refused` and the number
abbrev pub told : Exported → List ℕ → List ℕ
told (exports.Written n) text = text
told exports.NotTable text = line (refused_by (number exports.NotTable))
told exports.Unwritable text = line (refused_by (number exports.Unwritable))
told (exports.NoRoom n) text = line (refused_by (number (exports.NoRoom n)))

-- by what the load answered and the table that it left; so many bytes are lent for it
abbrev pub printed_by : ℕ → Loaded → List ℕ → List ℕ
printed_by room (loaded.Accepted n w) table = told (exported room table) (text_in (view table))
printed_by room (loaded.Refused k p) table = refusal_line k p

-- if refused the one refusal line, as the asker's
unfoldable pub printed : ℕ → List ℕ → List ℕ → List ℕ
printed room lent rules = printed_by room (load lent rules).answer (load lent rules).bytes

-- it stands in the lent bytes from their start on, as far as they reach, and whole where they have room for every text; the table is that of the load
pub record Prints (rules lent lent' out out' : List ℕ) (r : ℕ) : Type 0 where
  pub loads : lent' ≡ (load lent rules).bytes
  pub put : Put (printed (length out) lent rules) out 0 out' r
  pub counts : IsPrefixLen r out'
  pub whole : greatest_text ≤ length out → take r out' ≡ printed (length out) lent rules
