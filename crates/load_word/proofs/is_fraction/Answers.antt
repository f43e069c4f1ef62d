use Rattle.std.proofs.Common.{◌≡◌, refl, sym, ◌∙◌, get_or}
use Rattle.spec_token.proofs.laws.Spans.{span_after}
use Rattle.load_word.specs.laws.Digits.{some_digits, fraction_is}
use Rattle.load_word.proofs.is_fraction.Goals as goal

pub returns-then-at-e : goal.returns-then-at-e
returns-then-at-e c =
    let here = c.in-Some-eq46.ensures.lookup.3 in
    let point : get_or c.args.w.now c.args.at 0 ≡ 46 = sym (here.1 0) ∙ c.in-Some-eq46.field-0-test in
    c.is_exponent.ensures ∙ sym (fraction_is c.args.w.now c.args.at here.0 (rw point refl) ∙ rw (some_digits c.run_end-e.ensures c.if-at-e.true, span_after c.run_end-e.ensures) refl)
