-- THE THEOREM: where a file keeps the limits that every table keeps and the machine of Faults.antt finds nothing, no token of the file's text is a cause for
-- a refusal 5 to 10 or 12.
use Rattle.std.specs.Prelude.{◌≡◌, false, List, [], ℕ}
use Rattle.std.proofs.Math.Option.{none}
use Rattle.spec_lists.specs.Every.{Every}
use Rattle.spec_lists.proofs.laws.Every.{every_implies, none_first}
use Rattle.spec_file.specs.declared.Refusal.{Refusal}
use Rattle.spec_file.specs.Contents.{File}
use Rattle.spec_file.specs.Refusal.{Context, contexts, too_long, too_many, given_again, undefined_group, bad_level, unknown_word}
use Rattle.spec_file.specs.Load.{bad_calculation, causes, refused_by}
use Rattle.spec_file.specs.Acceptance.{Nowhere}
use Rattle.spec_file.proofs.laws.Causes.{nowhere}
use Rattle.spec_file.proofs.laws.Counted.{Clear}
use Rattle.spec_text.specs.Faults.{faulty}
use Rattle.spec_text.proofs.laws.Pieces.{said_at, file_pieces}
use Rattle.spec_text.proofs.laws.Keeps.{Keeps}
use Rattle.spec_text.proofs.laws.ClearContexts.{every_onward, in_text}
use Rattle.spec_text.proofs.laws.ClearFaults.{sound}
use Rattle.spec_text.proofs.laws.ClearTokens.{Plain, plain_respects, file_plain}
use Rattle.spec_text.proofs.laws.ClearCounts.{fits_respects, file_fits}
use Rattle.spec_text.proofs.laws.ClearNames.{nothing_again}
use Rattle.spec_text.proofs.laws.ClearDefined.{nothing_undefined}
use Rattle.spec_text.proofs.laws.ClearCalculations.{no_bad_calculation}

-- where no test finds anything, no refusal is answered
unrefused : {cs : List Context} → Clear cs → refused_by causes cs ≡ none
unrefused c =
    rw (
      none_first too_long c.short,
      none_first too_many c.few,
      none_first given_again c.once,
      none_first undefined_group c.defined,
      none_first bad_level c.levels,
      none_first unknown_word c.words,
      none_first bad_calculation c.calculations,
    )

module _ (f : File) (p : ℕ) (k : Keeps f) (e : faulty f ≡ false) where
  text_clear : Clear (contexts (said_at p (file_pieces f)))
  text_clear =
      record {
        short = every_implies (λ c h. h.short) plain;
        few = in_text fits_respects f p (file_fits f k.few);
        once = nothing_again f p (sound f e) k.named;
        defined = nothing_undefined f p (sound f e) k.named;
        levels = every_implies (λ c h. h.level) plain;
        words = every_implies (λ c h. h.word) plain;
        calculations = no_bad_calculation f p (sound f e);
      }
    where
      plain : Every (λ c. Plain c.backwards c.here) (contexts (said_at p (file_pieces f)))
      plain = in_text plain_respects f p (every_onward [] (file_plain f k))

  pub uncaused : (r : Refusal) → Nowhere r (contexts (said_at p (file_pieces f)))
  uncaused = nowhere (contexts (said_at p (file_pieces f))) (unrefused text_clear)
