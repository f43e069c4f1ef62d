use Rattle.std.proofs.Common.{refl, sym, ◌∙◌, arith}
use Rattle.prog_line.specs.laws.Readings.{at_start, at_end, no_reading, named_again, one_set}
use Rattle.prog_line.proofs.readings.Goals as goal

pub returns-in_err-named : goal.returns-in_err-named
returns-in_err-named c =
    c.from_residual.ensures
    ∙ sym
    (sym (at_start c.args.s.now)
    ∙ c.loop-rest.invariant
    ∙ no_reading
    c.loop-rest.rest.now
    _
    _
    c.in-len1-up.len_at_least
    refl
    c.part_length-end.ensures.value
    c.loop-rest.readings
    (sym c.in_err-named.ensures.named))

pub returns-then-was_heard : goal.returns-then-was_heard
returns-then-was_heard c =
    sym
    (sym (at_start c.args.s.now)
    ∙ c.loop-rest.invariant
    ∙ named_again
    c.loop-rest.rest.now
    _
    _
    c.in-len1-up.len_at_least
    refl
    c.part_length-end.ensures.value
    c.loop-rest.readings
    (sym c.in_ok-named.ensures.named)
    (sym c.was_heard.ensures ∙ c.if-was_heard.true))

pub loop-rest-preserved : goal.loop-rest-preserved
loop-rest-preserved c =
    c.loop-rest.invariant
    ∙ one_set
    c.loop-rest.rest.now
    _
    _
    c.in-len1-up.len_at_least
    refl
    c.part_length-end.ensures.value
    c.loop-rest.readings
    (sym c.in_ok-named.ensures.named)
    (sym c.was_heard.ensures ∙ c.if-was_heard.false)

pub returns : goal.returns
returns c = sym (sym (at_start c.args.s.now) ∙ c.loop-rest.invariant ∙ at_end c.loop-rest.readings c.loop-rest.rest.now (omega arith))
