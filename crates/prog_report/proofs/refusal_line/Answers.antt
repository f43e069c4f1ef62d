use Rattle.std.specs.Prelude.{ℕ}
use Rattle.std.proofs.Common.{ap, ◌∙◌, sym, arith, rules}
use Rattle.spec_lists.specs.Text.{bytes}
use Rattle.prog_text.specs.Text.{line}
use Rattle.prog_text.specs.laws.Put.{put_as, from_start}
use Rattle.prog_report.specs.Report.{placed}
use Rattle.prog_report.specs.laws.Length.{short_refusal}
use Rattle.prog_report.proofs.refusal_line.Goals as goal

pub returns : goal.returns
returns c =
    record {
      put =
          put_as
          (ap (λ (n : ℕ). line (placed (bytes "refusal ") n c.args.p)) (sym (c.from.ensures ∙ c.refusal_number.ensures)))
          (from_start c.put_line.ensures.written c.new-w.ensures.bytes c.new-w.ensures.start (search rules));
      short = short_refusal c.args.k c.args.p (let f = c.ranges.p.fits in omega arith);
    }
