use Rattle.std.specs.Prelude.{Some, None}
use Rattle.std.proofs.Common.{refl, sym, ◌∙◌, arith}
use Rattle.calc_numeral.specs.laws.Digits.{small, digits_full, digits_stop, counting_on}
use Rattle.calc_numeral.proofs.Here.{here, past}
use Rattle.calc_numeral.proofs.digits_at.Goals as goal

pub returns-then-not-is_ascii_digit : goal.returns-then-not-is_ascii_digit
returns-then-not-is_ascii_digit c = let s = c.args.s.now in
    let i = c.loop-b in
    let k = i.invariant.1 in
    k.whole_run (Some i.d)
    (digits_stop s i.d.end i.d.left i.d.number (here s c.args.at i.b-index i.d.end i.invariant.0 (omega arith)) c.is_ascii_digit.ensures.value
    c.if-not-is_ascii_digit.true k.within k.small)

pub returns-then-d-eq0 : goal.returns-then-d-eq0
returns-then-d-eq0 c = let s = c.args.s.now in
    let i = c.loop-b in
    i.invariant.1.whole_run None
    (digits_full s i.d.end i.d.left i.d.number (here s c.args.at i.b-index i.d.end i.invariant.0 (omega arith)) c.is_ascii_digit.ensures.value
    c.if-not-is_ascii_digit.false c.if-d-eq0.true)

pub pushed-requires : goal.pushed-requires
pushed-requires c = let i = c.loop-b in
    (small i.d.left i.d.number i.invariant.1.small, sym c.is_ascii_digit.ensures.value ∙ c.if-not-is_ascii_digit.false)

pub loop-b-preserved : goal.loop-b-preserved
loop-b-preserved c = let s = c.args.s.now in
    let a = c.args in
    let i = c.loop-b in (
      omega arith,
      counting_on s a.at a.left a.n i.d.end i.d.left i.d.number i.invariant.1
          (here s a.at i.b-index i.d.end i.invariant.0 (omega arith)) c.is_ascii_digit.ensures.value c.if-not-is_ascii_digit.false (omega arith)
          c.pushed.ensures,
    )

pub returns : goal.returns
returns c = let s = c.args.s.now in
    let i = c.loop-b in
    let k = i.invariant.1 in
    k.whole_run (Some i.d)
    (digits_stop s i.d.end i.d.left i.d.number (past s c.args.at i.b-index i.d.end i.invariant.0 (omega arith)) refl refl k.within k.small)
