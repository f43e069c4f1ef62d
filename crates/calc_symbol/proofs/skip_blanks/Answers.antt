use Rattle.std.specs.Prelude.{◌+◌, ◌≡◌, length}
use Rattle.std.proofs.Common.{ap, ◌∙◌, arith, refl}
use Rattle.std.proofs.lemmas.List.Edits.{length-between}
use Rattle.calc_numeral.proofs.Here.{here, past}
use Rattle.calc_symbol.specs.Scan.{syms}
use Rattle.calc_symbol.specs.laws.Scans.{blank_on, blank_off}
use Rattle.calc_symbol.proofs.skip_blanks.Goals as goal

pub returns-then-not-is_blank : goal.returns-then-not-is_blank
returns-then-not-is_blank c = let s = c.args.s.now in
    let p = c.args.at + c.loop-i.i in
    blank_off s c.args.at p c.loop-i.invariant (here s c.args.at c.loop-i.i p refl (omega arith)) c.is_blank.ensures c.if-not-is_blank.true
    (omega arith) (omega arith)

pub loop-i-preserved : goal.loop-i-preserved
loop-i-preserved c = let s = c.args.s.now in
    let p = c.args.at + c.loop-i.i in
    blank_on s c.args.at p c.loop-i.invariant (here s c.args.at c.loop-i.i p refl (omega arith)) c.is_blank.ensures c.if-not-is_blank.false
    ∙ ap (syms s) (omega arith)

pub returns : goal.returns
returns c = let s = c.args.s.now in
    let i = c.loop-i.i in
    let n = length-between s c.args.at (length s) (omega arith) in
    let e : syms s c.args.at ≡ syms s (length s) = c.loop-i.invariant ∙ ap (syms s) (omega arith) in
    blank_off s c.args.at (length s) e (past s c.args.at i (length s) (omega arith) (omega arith)) refl refl (omega arith) (omega arith)
