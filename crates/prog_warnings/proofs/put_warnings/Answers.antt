use Rattle.std.specs.Prelude.{ℕ, ◌≡◌, []}
use Rattle.std.proofs.Common.{ap, sym, ◌∙◌, inl, inr, arith, rules}
use Rattle.prog_text.specs.laws.Put.{put_put, put_as, from_start}
use Rattle.prog_report.specs.Report.{warning_line}
use Rattle.prog_warnings.specs.Lines.{lines_by}
use Rattle.prog_warnings.specs.laws.Lines.{short_lines, nothing, none_numbered, none_placed}
use Rattle.prog_warnings.proofs.put_warnings.Goals as goal

pub loop-number-preserved : goal.loop-number-preserved
loop-number-preserved c = record {
  lent = c.warning_line.ensures.lent ∙ c.loop-number.invariant.lent;
  left = λ out' r p.
      let s = c.in-Some.ensures.steps in
      c.loop-number.invariant.left
      out'
      r
      (rw (s.0, s.1)
      (put_put
      (put_as
      (ap (λ (n : ℕ). warning_line n c.in-Some.place.now) (sym c.from.ensures) ∙ ap (warning_line c.from.result) (sym c.from-in-loop-number.ensures))
      c.warning_line.ensures.written)
      p));
}

pub returns : goal.returns
returns c =
    let last : lines_by c.loop-number.number-iterator.a.rest.now c.loop-number.number-iterator.b.rest.now ≡ [] =
    elim c.in-None.ensures.steps [ inl x ↦ none_numbered _ _ x.1.0 | inr x ↦ none_placed _ _ x.1.0 ] in
    record {
      put =
          from_start
          (c.loop-number.invariant.left _ _ (put_as last (nothing c.loop-number.w.within)))
          c.new-w.ensures.bytes
          c.new-w.ensures.start
          (search rules);
      short = short_lines c.args.numbers.now c.args.places.now (λ i. let z = c.type_inv.numbers i in omega arith) (λ i. let z = c.type_inv.places i in omega arith);
    }
